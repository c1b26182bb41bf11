use Rattle.std.proofs.Common.{ap, subst, sym}
use Rattle.tetri_trace.specs.Draft.{so_far}
use Rattle.tetri_trace.specs.Sound.{IsSound}
use Rattle.tetri_trace.proofs.SoundLemmas.{with_event_sound}
use Rattle.tetri_trace.proofs.happen.with_event.Goals as goal

pub returns-clause-sound : goal.returns-clause-sound
returns-clause-sound c =
    let s = so_far c.args.draft.now in
    subst IsSound (sym (ap (λ es. record s { events = es }) c.in_ok-push.ensures.items)) (with_event_sound s c.args.at c.args.what c.requires.sound c.requires.next c.requires.known c.requires.no_arrival)

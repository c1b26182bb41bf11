use Rattle.std.proofs.Common.{◌≡◌, ◌∙◌, rules, sym, true}
use Rattle.tetri_workload.specs.Taking.{is_beyond, so_far}
use Rattle.tetri_workload.proofs.NoteLemmas.{beyond-full, no_room}
use Rattle.tetri_workload.proofs.taking.Taken.has_no_room.Goals as goal

pub returns-clause-full : goal.returns-clause-full
returns-clause-full c = λ is.
    let beyond : is_beyond c.args.settings.now (so_far c.args.self.now) ≡ true = search (rules, c.if-not-is_beyond.false, c.is_beyond.ensures) in
    beyond-full c.args.settings.now (so_far c.args.self.now) beyond

pub returns-clause-beyond : goal.returns-clause-beyond
returns-clause-beyond c = λ is line name set p number.
    let s = c.args.settings.now in
    let t = so_far c.args.self.now in
    let notes = c.args.self.now.notes in
    let beyond : is_beyond s t ≡ true = search (rules, c.if-not-is_beyond.false, c.is_beyond.ensures) in
    no_room s t notes line c.args.submit name set p number beyond (sym c.are_before.ensures ∙ is) c.ranges.submit.fits c.requires

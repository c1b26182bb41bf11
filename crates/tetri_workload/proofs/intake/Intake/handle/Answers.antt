use Rattle.std.proofs.Common.{refl}
use Rattle.tetri_workload.proofs.IntakeLemmas.{no_room-step}
use Rattle.tetri_workload.proofs.intake.Intake.handle.Goals as goal

pub returns-then-finds_no_room-clause-handled : goal.returns-then-finds_no_room-clause-handled
returns-then-finds_no_room-clause-handled c = λ o all rest given.
    let found = c.finds_no_room.ensures in
    let is = c.if-finds_no_room.true in
    no_room-step c.args.settings.now o all rest c.args.self.now _ c.args.job.now c.requires.good (found.place is) (found.turn is) (found.full is) (found.beyond is)
    c.in_ok-leave.ensures.tally refl refl refl given

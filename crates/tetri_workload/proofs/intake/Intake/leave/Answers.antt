use Rattle.std.proofs.Common.{refl, rules}
use Rattle.tetri_workload.specs.Reading.{MayLeave}
use Rattle.tetri_workload.proofs.IntakeLemmas.{passed-step}
use Rattle.tetri_workload.proofs.intake.Intake.leave.Goals as goal

pub returns-clause-handled : goal.returns-clause-handled
returns-clause-handled c = λ o all rest given.
    let s = c.args.settings.now in
    let i = c.args.self.now in
    let job = c.args.job.now in
    let may : MayLeave s i job.account c.in-Some.joined = search (rules, c.joined_behind.ensures, c.in-Some.is) in
    passed-step s o all rest i _ job c.args.cause c.requires.good c.requires.place may c.in_ok-leave.ensures.tally refl refl given

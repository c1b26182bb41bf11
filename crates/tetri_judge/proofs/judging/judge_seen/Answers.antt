use Rattle.std.proofs.Common.{Err, ap, inr}
use Rattle.tetri_judge.specs.PlanOf.{planned}
use Rattle.tetri_judge.specs.Verdict.{Passes, Test}
use Rattle.tetri_judge.proofs.PlaceLemmas.{verdict_within}
use Rattle.tetri_judge.proofs.VerdictLaws.{certified_passes, passing_is_certified, passing_is_good, refused_for_memory}
use Rattle.tetri_report.specs.Block.{headed}
use Rattle.tetri_space.specs.Space.{space}
use Rattle.tetri_judge.proofs.judging.judge_seen.Goals as goal

pub returns-in-Ok-clause-good : goal.returns-in-Ok-clause-good
returns-in-Ok-clause-good c = λ certificate told.
    let s = space c.args.inst.now in
    let p = planned (headed c.args.head.now certificate) in
    let pass : (t : Test) → Passes s c.args.carry c.args.budget p t = c.in-Ok.ensures certificate told in
    (passing_is_good s c.args.carry c.args.budget p c.requires pass, passing_is_certified s c.args.carry c.args.budget p pass)

pub returns-in-Err-clause-complete : goal.returns-in-Err-clause-complete
returns-in-Err-clause-complete c = λ certificate told honest certified.
    let s = space c.args.inst.now in
    let p = planned (headed c.args.head.now certificate) in
    inr (ap Err (refused_for_memory s c.args.carry c.args.budget p c.requires _ (c.in-Err.ensures certificate told) (certified_passes s c.args.carry c.args.budget p honest certified)))

pub returns-in-Err-clause-within : goal.returns-in-Err-clause-within
returns-in-Err-clause-within c = λ certificate told.
    verdict_within (space c.args.inst.now) c.args.carry c.args.budget (headed c.args.head.now certificate) c.in-Err.verdict (c.in-Err.ensures certificate told)

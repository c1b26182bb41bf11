use Rattle.std.proofs.Common.{Err, ap, inr}
use Rattle.tetri_judge.specs.Verdict.{Passes, Test}
use Rattle.tetri_judge.proofs.PlaceLemmas.{verdict_within}
use Rattle.tetri_judge.proofs.VerdictLaws.{certified_passes, passing_is_certified, passing_is_good, refused_for_memory}
use Rattle.tetri_report.specs.Block.{block}
use Rattle.tetri_judge.specs.PlanOf.{planned}
use Rattle.tetri_space.specs.Space.{space}
use Rattle.tetri_judge.proofs.judging.judge.Goals as goal

pub returns-in-Ok-test_plan-clause-good : goal.returns-in-Ok-test_plan-clause-good
returns-in-Ok-test_plan-clause-good c =
    let s = space c.args.inst.now in
    let p = planned (block c.args.c.now) in
    let pass : (t : Test) → Passes s c.args.carry c.args.budget p t = c.in-Ok-test_plan.ensures c.args.c.now.certificate c.in-Ok.ensures in
    (passing_is_good s c.args.carry c.args.budget p c.requires pass, passing_is_certified s c.args.carry c.args.budget p pass)

pub returns-in-Err-clause-complete : goal.returns-in-Err-clause-complete
returns-in-Err-clause-complete c = λ honest certified.
    let s = space c.args.inst.now in
    let p = planned (block c.args.c.now) in
    inr (ap Err (refused_for_memory s c.args.carry c.args.budget p c.requires _ (c.in-Err.ensures c.args.c.now.certificate c.in-Ok.ensures)
    (certified_passes s c.args.carry c.args.budget p honest certified)))

pub returns-in-Err-clause-within : goal.returns-in-Err-clause-within
returns-in-Err-clause-within c =
    verdict_within (space c.args.inst.now) c.args.carry c.args.budget (block c.args.c.now) c.in-Err.verdict (c.in-Err.ensures c.args.c.now.certificate c.in-Ok.ensures)

pub returns-in-Err-clause-verdict : goal.returns-in-Err-clause-verdict
returns-in-Err-clause-verdict c = c.in-Err.ensures c.args.c.now.certificate c.in-Ok.ensures

pub returns-in-Ok-test_plan-clause-verdict : goal.returns-in-Ok-test_plan-clause-verdict
returns-in-Ok-test_plan-clause-verdict c = c.in-Ok-test_plan.ensures c.args.c.now.certificate c.in-Ok.ensures

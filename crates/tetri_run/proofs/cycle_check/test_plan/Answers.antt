use Rattle.tetri_report.specs.Block.{headed}
use Rattle.tetri_space.specs.Space.{space}
use Rattle.tetri_run.proofs.StepLemmas.{plan_answer, refused_within}
use Rattle.tetri_run.proofs.cycle_check.test_plan.Goals as goal

pub returns-in-Ok : goal.returns-in-Ok
returns-in-Ok c = λ certificate told. let good = c.in-Ok.ensures.good certificate told in (good.0.honest, good.1)

pub refusal_of-requires : goal.refusal_of-requires
refusal_of-requires c = λ certificate.
    let few = c.requires.few in
    refused_within c.args.head.now few.0 certificate c.in-Err.verdict c.args.first (c.in-Err.ensures.within few.0 few.1) few.2

pub returns-in-Err : goal.returns-in-Err
returns-in-Err c = λ certificate told.
    plan_answer (space c.args.inst.now) c.args.carry c.args.budget c.args.first (headed c.args.head.now certificate) c.in-Err.verdict c.refusal_of.result
    (c.in-Err.ensures.verdict certificate told) (c.refusal_of.ensures certificate)

use Rattle.std.proofs.Common.{inr}
use Rattle.tetri_judge.proofs.judging.test_plan.Goals as goal

pub returns-in-Err : goal.returns-in-Err
returns-in-Err c = λ certificate told. inr (c.in-Err.ensures certificate c.args.budget)

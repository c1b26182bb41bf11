use Rattle.tetri_judge.proofs.VerdictLaws.{one_verdict}
use Rattle.tetri_judge.proofs.laws.plans_have_one_verdict.Goals as goal

pub returns : goal.returns
returns c = λ s carried budget p v w sound first second. one_verdict s carried budget p sound v w first second

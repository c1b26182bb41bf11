use Rattle.tetri_num.proofs.Zeros.{checked_quotient-one}
use Rattle.tetri_num.proofs.laws.quotient_by_one.Goals as goal

pub returns : goal.returns
returns c = checked_quotient-one

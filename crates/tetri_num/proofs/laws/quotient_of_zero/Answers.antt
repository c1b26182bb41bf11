use Rattle.tetri_num.proofs.Zeros.{checked_quotient-zero}
use Rattle.tetri_num.proofs.laws.quotient_of_zero.Goals as goal

pub returns : goal.returns
returns c = checked_quotient-zero

use Rattle.tetri_num.proofs.Zeros.{checked_sum-zero_right, checked_sum-zero_left}
use Rattle.tetri_num.proofs.laws.sum_with_zero.Goals as goal

pub returns-clause-right : goal.returns-clause-right
returns-clause-right c = checked_sum-zero_right

pub returns-clause-left : goal.returns-clause-left
returns-clause-left c = checked_sum-zero_left

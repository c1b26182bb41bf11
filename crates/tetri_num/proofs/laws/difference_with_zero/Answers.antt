use Rattle.tetri_num.proofs.Zeros.{checked_difference-zero_right, checked_difference-zero_left}
use Rattle.tetri_num.proofs.laws.difference_with_zero.Goals as goal

pub returns-clause-right : goal.returns-clause-right
returns-clause-right c = checked_difference-zero_right

pub returns-clause-left : goal.returns-clause-left
returns-clause-left c = checked_difference-zero_left

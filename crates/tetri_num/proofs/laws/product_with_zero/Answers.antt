use Rattle.tetri_num.proofs.Zeros.{checked_product-zero_right, checked_product-zero_left}
use Rattle.tetri_num.proofs.laws.product_with_zero.Goals as goal

pub returns-clause-right : goal.returns-clause-right
returns-clause-right c = checked_product-zero_right

pub returns-clause-left : goal.returns-clause-left
returns-clause-left c = checked_product-zero_left

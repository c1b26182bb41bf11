use Rattle.tetri_num.proofs.Checks.{checked_sum_representable, checked_product_representable}
use Rattle.tetri_num.proofs.Fracs.{value_representable}
use Rattle.tetri_num.proofs.laws.values_are_representable.Goals as goal

pub returns-clause-value : goal.returns-clause-value
returns-clause-value c = value_representable c.args.x

pub returns-clause-sum : goal.returns-clause-sum
returns-clause-sum c = checked_sum_representable

pub returns-clause-product : goal.returns-clause-product
returns-clause-product c = checked_product_representable

use Rattle.tetri_rows.proofs.Bounds.{small_product, small_sum}
use Rattle.tetri_rows.proofs.laws.small_entries.Goals as goal

pub returns-clause-product : goal.returns-clause-product
returns-clause-product c = small_product

pub returns-clause-sum : goal.returns-clause-sum
returns-clause-sum c = small_sum

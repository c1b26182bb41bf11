use Rattle.std.proofs.Common.{arith}
use Rattle.std.proofs.lemmas.Int.{to_z-of_z}
use Rattle.tetri_ip.proofs.Signed.{signed}
use Rattle.tetri_ip.proofs.WordProducts.{word_product_fits, word_product_is}
use Rattle.tetri_ip.proofs.range.product.Goals as goal

pub overflow_mul-result : goal.overflow_mul-result
overflow_mul-result c = word_product_fits c.args.a c.args.b _ _ (to_z-of_z _ _ c.ranges.a) (to_z-of_z _ _ c.ranges.b) (grind (arith, signed)) (grind (arith, signed))

pub returns-then-is_word-2 : goal.returns-then-is_word-2
returns-then-is_word-2 c = word_product_is c.args.a c.args.b _ _ (to_z-of_z _ _ c.ranges.a) (to_z-of_z _ _ c.ranges.b) (grind (arith, signed)) (grind (arith, signed))

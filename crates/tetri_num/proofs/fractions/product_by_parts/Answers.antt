use Rattle.std.proofs.Common.{arith}
use Rattle.tetri_num.proofs.Signed.{signed}
use Rattle.tetri_num.proofs.Values.{product_lowest}
use Rattle.tetri_num.proofs.fractions.product_by_parts.Goals as goal

pub invariant_of-result : goal.invariant_of-result
invariant_of-result c = record {
  lowest = product_lowest _ _ c.args.x.num c.args.x.den c.args.y.num c.args.y.den (grind (arith, signed)) (grind (arith, signed)) c.args.x.lowest c.args.y.lowest
      (grind (arith, signed), (grind (arith, signed), tt));
}

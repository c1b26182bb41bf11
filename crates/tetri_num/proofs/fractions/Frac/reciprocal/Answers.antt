use Rattle.std.proofs.Common.{arith}
use Rattle.tetri_num.proofs.Signed.{signed}
use Rattle.tetri_num.proofs.Values.{recip_above_lowest, recip_below_lowest}
use Rattle.tetri_num.proofs.fractions.Frac.reciprocal.Goals as goal
use Rattle.tetri_num.proofs.fractions.Frac.reciprocal.Goals.{then-self-gt0, else-self-gt0}

pub invariant_of-result : goal.invariant_of-result
invariant_of-result c = record {
  lowest = elim c.if-self-gt0.branch [
    | then-self-gt0 w ↦ recip_above_lowest _ _ c.args.self.num c.args.self.den (grind (arith, signed)) (grind (arith, signed)) (grind (arith, signed)) c.args.self.lowest
    | else-self-gt0 w ↦ recip_below_lowest _ _ c.args.self.num c.args.self.den c.requires (grind (arith, signed)) (grind (arith, signed)) (grind (arith, signed)) c.args.self.lowest
  ];
}

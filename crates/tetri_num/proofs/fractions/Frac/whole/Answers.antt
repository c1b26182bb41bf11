use Rattle.std.proofs.Common.{arith}
use Rattle.tetri_num.proofs.Signed.{signed}
use Rattle.tetri_num.proofs.Values.{whole_lowest, value-whole}
use Rattle.tetri_num.proofs.fractions.Frac.whole.Goals as goal

pub invariant_of-result : goal.invariant_of-result
invariant_of-result c = record { lowest = whole_lowest _ _ c.args.n (grind (arith, signed)) (grind (arith, signed)) c.requires }

pub returns-clause-rational : goal.returns-clause-rational
returns-clause-rational c = value-whole _ c.args.n (grind (arith, signed)) (grind (arith, signed))

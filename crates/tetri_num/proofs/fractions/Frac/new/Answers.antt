use Rattle.std.proofs.Common.{arith}
use Rattle.tetri_num.proofs.Signed.{signed}
use Rattle.tetri_num.proofs.Common.{reduced_lowest, reduced_value}
use Rattle.tetri_num.proofs.Values.{value-new}
use Rattle.tetri_num.proofs.fractions.Frac.new.Goals as goal

pub invariant_of-result : goal.invariant_of-result
invariant_of-result c = record {
  lowest = reduced_lowest c.args.num c.args.den _ _ c.requires.positive c.requires.num_within c.requires.den_within (grind (arith, signed)) (grind (arith, signed));
}

pub returns-clause-cross : goal.returns-clause-cross
returns-clause-cross c = reduced_value c.args.num c.args.den _ _ (grind (arith, signed)) (grind (arith, signed))

pub returns-clause-rational : goal.returns-clause-rational
returns-clause-rational c = value-new _ c.args.num c.args.den c.requires.positive (returns-clause-cross c)

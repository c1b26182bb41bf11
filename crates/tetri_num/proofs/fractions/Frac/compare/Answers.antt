use Rattle.std.proofs.Common.{arith, refl}
use Rattle.tetri_num.proofs.Signed.{signed}
use Rattle.tetri_num.proofs.Short.{same_bits}
use Rattle.tetri_num.proofs.Compares.{compare_values, one_den_cmp}
use Rattle.tetri_num.proofs.fractions.Frac.compare.Goals as goal

pub returns-clause-rational : goal.returns-clause-rational
returns-clause-rational c = compare_values c.args.self c.args.other c.compare_parts.result (grind (arith, signed))

pub returns-then-self-other-clause-cross : goal.returns-then-self-other-clause-cross
returns-then-self-other-clause-cross c =
    let same = same_bits c.args.self.den c.args.other.den c.args.self.lowest.den_within c.args.other.lowest.den_within c.if-self-other.true in
    one_den_cmp c.args.self.num c.args.self.den c.args.other.num c.args.other.den _ _ c.cmp.result c.cmp.ensures refl refl same c.args.other.lowest.positive

pub returns-then-self-other-clause-rational : goal.returns-then-self-other-clause-rational
returns-then-self-other-clause-rational c = compare_values c.args.self c.args.other c.cmp.result (returns-then-self-other-clause-cross c)

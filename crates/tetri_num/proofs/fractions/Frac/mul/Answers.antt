use Rattle.std.proofs.Common.{refl}
use Rattle.std.proofs.lemmas.Bool.{false≢true}
use Rattle.tetri_num.proofs.Values.{value-product, cross_product}
use Rattle.tetri_num.proofs.Checks.{checked_product_some, checked_product_none}
use Rattle.tetri_num.proofs.fractions.Frac.mul.Goals as goal

pub returns-in-Some-clause-rational : goal.returns-in-Some-clause-rational
returns-in-Some-clause-rational c = value-product c.in-Some.product c.args.self c.args.other c.in-Some.ensures.num c.in-Some.ensures.den

pub returns-in-Some-clause-cross : goal.returns-in-Some-clause-cross
returns-in-Some-clause-cross c = cross_product _ _ c.args.self.num c.args.self.den c.args.other.num c.args.other.den c.in-Some.ensures.num c.in-Some.ensures.den

pub returns-in-Some-clause-checked : goal.returns-in-Some-clause-checked
returns-in-Some-clause-checked c = checked_product_some _ c.args.self c.args.other (returns-in-Some-clause-rational c) (c.in-Some.ensures.some.0 refl)

pub returns-in-None-clause-checked : goal.returns-in-None-clause-checked
returns-in-None-clause-checked c = checked_product_none c.args.self c.args.other (λ h. false≢true (c.in-None.ensures.some.1 h))

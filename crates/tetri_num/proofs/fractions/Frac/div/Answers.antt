use Rattle.std.proofs.Common.{refl, sym, ap, ◌∙◌}
use Rattle.std.proofs.lemmas.Bool.{false≢true}
use Rattle.tetri_algebra.specs.RationalRing.{◌*ℚ◌}
use Rattle.tetri_num.specs.Frac.{value}
use Rattle.tetri_num.specs.Checked.{checked_product}
use Rattle.tetri_num.proofs.Values.{value-product, value-reciprocal, cross_quotient}
use Rattle.tetri_num.proofs.Checks.{checked_product_some, checked_product_none}
use Rattle.tetri_num.proofs.fractions.Frac.div.Goals as goal

pub returns-in-Some-clause-rational : goal.returns-in-Some-clause-rational
returns-in-Some-clause-rational c =
    value-product c.in-Some.quotient c.args.self c.reciprocal.result c.in-Some.ensures.num c.in-Some.ensures.den
    ∙ ap (λ z. value c.args.self *ℚ z) (value-reciprocal c.reciprocal.result c.args.other c.requires c.reciprocal.ensures.num c.reciprocal.ensures.den)

pub returns-in-Some-clause-cross : goal.returns-in-Some-clause-cross
returns-in-Some-clause-cross c =
    cross_quotient _ _ c.args.self.num c.args.self.den c.args.other.num c.args.other.den _ _ c.requires c.reciprocal.ensures.num c.reciprocal.ensures.den c.in-Some.ensures.num c.in-Some.ensures.den

pub returns-in-Some-clause-checked : goal.returns-in-Some-clause-checked
returns-in-Some-clause-checked c =
    ap (λ z. checked_product (value c.args.self) z) (sym (value-reciprocal c.reciprocal.result c.args.other c.requires c.reciprocal.ensures.num c.reciprocal.ensures.den))
    ∙ checked_product_some (value c.in-Some.quotient) c.args.self c.reciprocal.result
    (value-product c.in-Some.quotient c.args.self c.reciprocal.result c.in-Some.ensures.num c.in-Some.ensures.den) (c.in-Some.ensures.some.0 refl)

pub returns-in-None-clause-checked : goal.returns-in-None-clause-checked
returns-in-None-clause-checked c =
    ap (λ z. checked_product (value c.args.self) z) (sym (value-reciprocal c.reciprocal.result c.args.other c.requires c.reciprocal.ensures.num c.reciprocal.ensures.den))
    ∙ checked_product_none c.args.self c.reciprocal.result (λ h. false≢true (c.in-None.ensures.some.1 h))

use Rattle.std.proofs.Common.{refl, sym, ap, ◌∙◌}
use Rattle.std.proofs.lemmas.Bool.{false≢true}
use Rattle.tetri_algebra.specs.RationalRing.{◌+ℚ◌}
use Rattle.tetri_num.specs.Frac.{value}
use Rattle.tetri_num.specs.Checked.{checked_sum}
use Rattle.tetri_num.proofs.Values.{value-sum, value-negated, cross_difference}
use Rattle.tetri_num.proofs.Checks.{checked_sum_some, checked_sum_none}
use Rattle.tetri_num.proofs.fractions.Frac.sub.Goals as goal

pub returns-in-Some-clause-rational : goal.returns-in-Some-clause-rational
returns-in-Some-clause-rational c =
    value-sum c.in-Some.difference c.args.self c.negated.result c.in-Some.ensures.num c.in-Some.ensures.den
    ∙ ap (λ z. value c.args.self +ℚ z) (value-negated c.negated.result c.args.other c.negated.ensures.num c.negated.ensures.den)

pub returns-in-Some-clause-cross : goal.returns-in-Some-clause-cross
returns-in-Some-clause-cross c =
    cross_difference _ _ c.args.self.num c.args.self.den c.args.other.num c.args.other.den _ _ c.negated.ensures.num c.negated.ensures.den c.in-Some.ensures.num c.in-Some.ensures.den

pub returns-in-Some-clause-checked : goal.returns-in-Some-clause-checked
returns-in-Some-clause-checked c =
    ap (λ z. checked_sum (value c.args.self) z) (sym (value-negated c.negated.result c.args.other c.negated.ensures.num c.negated.ensures.den))
    ∙ checked_sum_some (value c.in-Some.difference) c.args.self c.negated.result
    (value-sum c.in-Some.difference c.args.self c.negated.result c.in-Some.ensures.num c.in-Some.ensures.den) (c.in-Some.ensures.some.0 refl)

pub returns-in-None-clause-checked : goal.returns-in-None-clause-checked
returns-in-None-clause-checked c =
    ap (λ z. checked_sum (value c.args.self) z) (sym (value-negated c.negated.result c.args.other c.negated.ensures.num c.negated.ensures.den))
    ∙ checked_sum_none c.args.self c.negated.result (λ h. false≢true (c.in-None.ensures.some.1 h))

use Rattle.std.proofs.Common.{ap, subst, ◌∙◌, Ok, rules}
use Rattle.std.specs.Prelude.{◌↔◌, IsTrue}
use Rattle.std.proofs.lemmas.Int.{to_z-of_z}
use lib.IntN.{ℤ}
use mir.Val.{SFits}
use mir.Syntax.{w128}
use Rattle.tetri_algebra.specs.Rational.{ℚ, whole_ℚ}
use Rattle.tetri_algebra.specs.RationalOrder.{◌<ℚ◌}
use Rattle.tetri_num.specs.Frac.{value}
use Rattle.tetri_dictionary.specs.Fractions.{values}
use Rattle.tetri_cuts.proofs.BreakLemmas.{left_value_is}
use Rattle.tetri_cuts.proofs.breaking.breaks.Goals as goal

pub returns-in-Ok-clause-past : goal.returns-in-Ok-clause-past
returns-in-Ok-clause-past c = c.in-Ok.ensures ∙ ap (λ y. Ok y) (left_value_is c.args.row.now.terms.items (values c.args.point.now) (value c.in-Ok.left) c.in-Ok.ensures)

pub returns-in-Ok-clause-value : goal.returns-in-Ok-clause-value
returns-in-Ok-clause-value c =
    let f : SFits w128 c.args.row.now.right = search rules in
    let e = left_value_is c.args.row.now.terms.items (values c.args.point.now) (value c.in-Ok.left) c.in-Ok.ensures in
    subst (λ (y : ℚ). IsTrue c.is_above.result ↔ (whole_ℚ c.args.row.now.right <ℚ y)) e
    (subst (λ (z : ℤ). IsTrue c.is_above.result ↔ (whole_ℚ z <ℚ value c.in-Ok.left)) (to_z-of_z _ _ f) c.is_above.ensures)

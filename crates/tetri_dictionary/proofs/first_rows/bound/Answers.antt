use Rattle.std.proofs.Common.{◌≡◌, ◌∷◌, Option, map, ap, subst, ◌∙◌}
use Rattle.std.specs.Global.{Vec}
use Rattle.std.specs.Prelude.{IfSome}
use mir.Val.{to_z, of_z}
use mir.Syntax.{w128}
use Rattle.std.proofs.lemmas.Int.{to_z-of_z}
use lib.IntN.{ℤ}
use Rattle.tetri_algebra.specs.Rational.{whole_ℚ}
use Rattle.tetri_dictionary.specs.Start.{minus_one_at}
use Rattle.tetri_dictionary.proofs.FirstRows.{bound_wide, meaning_of_whole, wide_values}
use Rattle.tetri_dictionary.proofs.first_rows.bound.Goals as goal

pub returns-in-Some-clause-numbers : goal.returns-in-Some-clause-numbers
returns-in-Some-clause-numbers c =
    meaning_of_whole c.in-Some.numbers.items ∙ ap (map whole_ℚ) (subst (λ (o : Option (Vec ℤ)). IfSome o (λ (v : Vec ℤ). v.items ≡ to_z w128 (of_z w128 c.args.width) ∷ minus_one_at c.args.j 0 c.args.p.now.costs.items)) c.in-Some.is c.in_ok-numbers.ensures.numbers) ∙ ap (λ (z : ℤ). map whole_ℚ (z ∷ minus_one_at c.args.j 0 c.args.p.now.costs.items)) (to_z-of_z _ _ c.ranges.width)

pub returns-clause-numbers : goal.returns-clause-numbers
returns-clause-numbers c = c.in_ok-numbers-2.ensures ∙ ap (λ (z : ℤ). map whole_ℚ (z ∷ minus_one_at c.args.j 0 c.args.p.now.costs.items)) (to_z-of_z _ _ c.ranges.width)

pub returns-clause-sound : goal.returns-clause-sound
returns-clause-sound c =
    wide_values c.in_ok-numbers-2.numbers.items (c.args.width ∷ minus_one_at c.args.j 0 c.args.p.now.costs.items) _ (returns-clause-numbers c) (bound_wide c.args.p.now.costs.items c.args.j c.args.width)

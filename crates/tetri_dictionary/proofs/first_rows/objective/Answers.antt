use Rattle.std.proofs.Common.{◌≡◌, Option, map, ap, subst, ◌∙◌}
use Rattle.std.specs.Global.{Vec}
use Rattle.std.specs.Prelude.{IfSome}
use lib.IntN.{ℤ}
use Rattle.tetri_algebra.specs.Rational.{whole_ℚ}
use Rattle.tetri_dictionary.specs.Start.{objective_row}
use Rattle.tetri_dictionary.proofs.FirstRows.{meaning_of_whole, objective_wide, wide_values}
use Rattle.tetri_dictionary.proofs.first_rows.objective.Goals as goal

pub returns-in-Some-clause-numbers : goal.returns-in-Some-clause-numbers
returns-in-Some-clause-numbers c = meaning_of_whole c.in-Some.numbers.items ∙ ap (map whole_ℚ) (subst (λ (o : Option (Vec ℤ)). IfSome o (λ (v : Vec ℤ). v.items ≡ objective_row c.args.p.now.costs.items c.args.start.now)) c.in-Some.is c.in_ok-numbers.ensures.numbers)

pub returns-clause-sound : goal.returns-clause-sound
returns-clause-sound c =
    let cs = c.args.p.now.costs.items in
    wide_values c.in_ok-numbers-2.numbers.items (objective_row cs c.args.start.now) _ c.in_ok-numbers-2.ensures (objective_wide cs c.args.start.now)

use Rattle.std.proofs.Common.{◌≡◌, ◌∷◌, refl, ap, subst, ◌∙◌}
use Rattle.std.proofs.lemmas.Int.{to_z-of_z}
use lib.IntN.{ℤ}
use Rattle.tetri_rows.proofs.RowLaws.{short_word}
use Rattle.tetri_rows.specs.Small.{IsShort}
use Rattle.tetri_dictionary.specs.Start.{minus_one_at}
use Rattle.tetri_dictionary.proofs.FirstRows.{bound_is, bound_sound}
use Rattle.tetri_dictionary.proofs.first_rows.short_bound.Goals as goal

pub returns-clause-numbers : goal.returns-clause-numbers
returns-clause-numbers c =
    let cs = c.args.p.now.costs.items in
    let same = short_word c.in-Some.constant c.in-Some.ensures.short ∙ c.in-Some.ensures.value ∙ to_z-of_z _ _ c.ranges.width in
    bound_is cs c.in_ok-numbers.numbers.items _ c.args.j c.len.result _ _ (c.len.ensures ∙ c.args.p.now.costs.ok.0) (c.in_ok-numbers.ensures.items_if_clones_equal (λ y e. e)) refl refl c.requires.column
    ∙ ap (λ (z : ℤ). z ∷ minus_one_at c.args.j 0 cs) same

pub returns-clause-sound : goal.returns-clause-sound
returns-clause-sound c =
    bound_sound c.args.p.now.costs.items _ c.args.j c.args.width (returns-clause-numbers c) (subst IsShort (c.in-Some.ensures.value ∙ to_z-of_z _ _ c.ranges.width) c.in-Some.ensures.short)

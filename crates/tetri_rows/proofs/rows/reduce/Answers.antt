use Rattle.std.proofs.Common.{get_or, refl, rules, sym, ap, ◌∙◌}
use Rattle.std.proofs.lemmas.Int.{to_z-of_z}
use lib.IntN.{pos, ◌*ℤ◌}
use mir.Val.{to_z, of_z, SFits}
use mir.Syntax.{w64}
use Rattle.tetri_rows.proofs.Words.{short_word, divides_word, combined_alone, reduced_denominator, reduced_short}
use Rattle.tetri_rows.proofs.Meanings.{meaning_same}
use Rattle.tetri_rows.proofs.rows.reduce.Goals as goal

pub divide-requires-clause-divides : goal.divide-requires-clause-divides
divide-requires-clause-divides c =
    let fg : SFits w64 c.divisor-g.result = search rules in
    λ q l. divides_word c.divisor-g.result _ _ (get_or c.args.row.now q (pos 0)) (to_z-of_z w64 _ fg) (sym (combined_alone (get_or c.args.row.now q (pos 0)) (get_or c.args.row.now q (pos 0)))) (c.divisor-g.ensures.numbers q l)

pub divided-requires-clause-divides : goal.divided-requires-clause-divides
divided-requires-clause-divides c =
    let fg : SFits w64 c.divisor-g.result = search rules in
    divides_word c.divisor-g.result _ (to_z w64 (of_z w64 c.args.den)) _ (to_z-of_z w64 _ fg) refl c.divisor-g.ensures.den

pub returns-clause-den : goal.returns-clause-den
returns-clause-den c =
    let fg : SFits w64 c.divisor-g.result = search rules in
    let fr : SFits w64 c.divided.result = search rules in
    reduced_denominator c.divided.result _ c.divisor-g.result _ c.args.den _ (to_z-of_z w64 _ fr) (to_z-of_z w64 _ fg) (short_word _ c.requires.den.short) c.divisor-g.ensures.positive c.requires.den c.divided.ensures.value

pub returns-clause-row : goal.returns-clause-row
returns-clause-row c =
    let fg : SFits w64 c.divisor-g.result = search rules in
    reduced_short c.args.row.now c.divide.new.row c.divisor-g.result _ (to_z-of_z w64 _ fg) c.divisor-g.ensures.positive c.divide.auto.row c.requires.row c.divide.ensures

pub returns-clause-same : goal.returns-clause-same
returns-clause-same c =
    let fg : SFits w64 c.divisor-g.result = search rules in
    let fr : SFits w64 c.divided.result = search rules in
    let eg = to_z-of_z w64 c.divisor-g.result fg in
    meaning_same c.args.den (to_z w64 (of_z w64 c.divided.result)) c.divisor-g.result _ c.args.row.now c.divide.new.row c.requires.den (returns-clause-den c) eg
    (ap (λ z. z *ℤ c.divisor-g.result) (to_z-of_z w64 c.divided.result fr) ∙ ap (λ z. c.divided.result *ℤ z) (sym eg) ∙ c.divided.ensures.value ∙ short_word _ c.requires.den.short) c.divide.auto.row c.divide.ensures

use Rattle.std.proofs.Common.{◌≡◌, ◌+◌, get_or, Ok, sym, ap, ◌∙◌}
use lib.IntN.{pos}
use Rattle.tetri_num.specs.Frac.{value}
use Rattle.tetri_num.proofs.FractionLaws.{at_four}
use Rattle.tetri_rows.specs.Rows.{minus_ratio}
use Rattle.tetri_rows.proofs.RowLaws.{short_word}
use Rattle.tetri_dictionary.specs.SignedNumbers.{signed_numbers}
use Rattle.tetri_dictionary.specs.WholeRatios.{ratio_at, ratio_candidate}
use Rattle.tetri_dictionary.proofs.SignedNumbers.{above_denominator, signed_length, signed_short, signed_word}
use Rattle.tetri_dictionary.proofs.WholeEntering.{above_in_other, chosen, whole_candidate}
use Rattle.tetri_dictionary.proofs.whole_choices.entering_signed.Goals as goal

pub minus_ratio-ratio-requires-clause-a : goal.minus_ratio-ratio-requires-clause-a
minus_ratio-ratio-requires-clause-a c =
    let ns = signed_numbers c.args.other c.args.numbers.now in
    above_denominator ns c.in-Some.place c.signed_at.result (signed_short c.args.other c.args.numbers.now c.requires.row.short) c.in-Some.ensures.above c.signed_at.ensures

pub returns-in_default-clause-formed : goal.returns-in_default-clause-formed
returns-in_default-clause-formed c =
    λ i. c.least_whole.ensures.formed c.args.den c.args.objective_den i c.requires.row.over c.requires.objective.over
    ∙ ap (λ o. Ok (ratio_candidate c.args.den c.args.objective_den (signed_numbers c.args.other c.args.numbers.now) c.args.objective.now o)) c.in_default.is

pub returns-clause-formed : goal.returns-clause-formed
returns-clause-formed c =
    let ns = signed_numbers c.args.other c.args.numbers.now in
    let hs = signed_short c.args.other c.args.numbers.now c.requires.row.short in
    let os = c.args.objective.now in
    let p = c.in-Some.place in
    let l = c.in-Some.ensures.above.within in
    let m = above_in_other ns os p (c.requires.objective.wide ∙ sym (signed_length c.args.other c.args.numbers.now ∙ c.requires.row.wide)) c.in-Some.ensures.above in
    let e : value c.minus_ratio-ratio.result ≡ ratio_at c.args.den c.args.objective_den ns os p =
    c.minus_ratio-ratio.ensures
    ∙ at_four minus_ratio c.args.den c.args.objective_den (get_or os (p + 1) (pos 0)) (get_or ns (p + 1) (pos 0)) _ _ _ _
    (short_word _ c.requires.row.over.short) (short_word _ c.requires.objective.over.short) (short_word _ (c.requires.objective.short (p + 1) (pos 0) m)) (signed_word ns (p + 1) c.signed_at.result hs l c.signed_at.ensures) in
    λ i. c.least_whole.ensures.formed c.args.den c.args.objective_den i c.requires.row.over c.requires.objective.over
    ∙ ap (λ o. Ok (ratio_candidate c.args.den c.args.objective_den ns os o)) c.in-Some.is
    ∙ ap Ok (chosen c.args.den c.args.objective_den ns os p (value c.minus_ratio-ratio.result) e)

pub returns-clause-positive : goal.returns-clause-positive
returns-clause-positive c =
    whole_candidate c.args.nonbasic.now c.args.den (signed_numbers c.args.other c.args.numbers.now) _ c.requires.row.over (signed_length c.args.other c.args.numbers.now ∙ c.requires.row.wide) c.in-Some.ensures.above

use Rattle.std.proofs.Common.{◌+◌, get_or, sym, ◌∙◌}
use lib.IntN.{pos}
use Rattle.tetri_num.proofs.FractionLaws.{at_four}
use Rattle.tetri_rows.specs.Rows.{minus_ratio}
use Rattle.tetri_rows.proofs.RowLaws.{short_word}
use Rattle.tetri_dictionary.specs.SignedNumbers.{signed_numbers}
use Rattle.tetri_dictionary.specs.Tables.{is_less}
use Rattle.tetri_dictionary.proofs.SignedNumbers.{above_denominator, signed_length, signed_short, signed_word}
use Rattle.tetri_dictionary.proofs.WholeEntering.{above_in_other}
use Rattle.tetri_dictionary.proofs.whole_choices.is_lesser_at.Goals as goal

pub is_lesser_ratio-requires-clause-a : goal.is_lesser_ratio-requires-clause-a
is_lesser_ratio-requires-clause-a c = above_denominator (signed_numbers c.args.other c.args.numbers.now) c.args.k c.signed_at.result (signed_short c.args.other c.args.numbers.now c.requires.numbers) c.requires.place c.signed_at.ensures

pub is_lesser_ratio-requires-clause-b : goal.is_lesser_ratio-requires-clause-b
is_lesser_ratio-requires-clause-b c = above_denominator (signed_numbers c.args.other c.args.numbers.now) c.args.b c.signed_at-2.result (signed_short c.args.other c.args.numbers.now c.requires.numbers) c.requires.other c.signed_at-2.ensures

pub returns : goal.returns
returns c =
    let ns = signed_numbers c.args.other c.args.numbers.now in
    let hs = signed_short c.args.other c.args.numbers.now c.requires.numbers in
    let os = c.args.objective.now in
    let k = c.args.k + 1 in
    let b = c.args.b + 1 in
    let wide = c.requires.wide ∙ sym (signed_length c.args.other c.args.numbers.now) in
    λ d e hd he. c.is_lesser_ratio.ensures d e hd he
    ∙ at_four (λ o a p q. is_less (minus_ratio d e o a) (minus_ratio d e p q)) (get_or os k (pos 0)) (get_or ns k (pos 0)) (get_or os b (pos 0)) (get_or ns b (pos 0)) _ _ _ _
    (short_word _ (c.requires.objective k (pos 0) (above_in_other ns os c.args.k wide c.requires.place))) (signed_word ns k c.signed_at.result hs c.requires.place.within c.signed_at.ensures)
    (short_word _ (c.requires.objective b (pos 0) (above_in_other ns os c.args.b wide c.requires.other))) (signed_word ns b c.signed_at-2.result hs c.requires.other.within c.signed_at-2.ensures)

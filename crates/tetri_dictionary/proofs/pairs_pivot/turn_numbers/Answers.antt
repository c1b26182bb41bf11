use Rattle.std.proofs.Common.{get_or}
use lib.IntN.{pos}
use Rattle.tetri_rows.proofs.RowLaws.{short_word}
use Rattle.tetri_dictionary.proofs.PairRows.{constant_word, set_short, turned_meaning, width_short}
use Rattle.tetri_dictionary.proofs.pairs_pivot.turn_numbers.Goals as goal

pub returns-clause-turned : goal.returns-clause-turned
returns-clause-turned c =
    λ t. turned_meaning c.args.width c.args.den _ c.args.numbers.now c.negate.new.row c.requires.den c.requires.some c.negate.auto.row
    (constant_word c.args.width c.args.den (get_or c.args.numbers.now 0 (pos 0)) _ _ _ (short_word c.args.width (width_short c.args.width c.requires.width)) (short_word c.args.den c.requires.den.short)
    (short_word (get_or c.args.numbers.now 0 (pos 0)) (c.requires.numbers 0 (pos 0) c.requires.some)) c.requires.width c.requires.den (c.requires.numbers 0 (pos 0) c.requires.some))
    c.negate.ensures.value

pub returns-clause-short : goal.returns-clause-short
returns-clause-short c = set_short c.negate.new.row _ c.negate.ensures.row c.if-constant.false c.if-constant-ge-SHORT.false

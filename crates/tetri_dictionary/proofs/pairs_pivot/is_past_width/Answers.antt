use Rattle.std.proofs.Common.{get_or}
use lib.IntN.{pos}
use Rattle.tetri_rows.proofs.RowLaws.{short_word}
use Rattle.tetri_dictionary.proofs.PairRows.{past_width, width_short}
use Rattle.tetri_dictionary.proofs.pairs_pivot.is_past_width.Goals as goal

pub returns : goal.returns
returns c =
    past_width c.args.width c.args.den _ _ _ c.args.numbers.now (short_word c.args.width (width_short c.args.width c.requires.width)) (short_word c.args.den c.requires.den.short)
    (short_word (get_or c.args.numbers.now 0 (pos 0)) (c.requires.numbers 0 (pos 0) c.requires.some)) c.requires.width c.requires.den c.requires.some

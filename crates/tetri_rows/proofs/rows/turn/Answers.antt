use Rattle.std.proofs.Common.{get_or, refl}
use Rattle.std.proofs.lemmas.Int.{to_z-of_z}
use lib.IntN.{pos}
use Rattle.tetri_rows.proofs.Words.{turned_above, turned_below, test_above, test_below}
use Rattle.tetri_rows.proofs.rows.turn.Goals as goal

pub returns-then-pivot-gt0-clause-value : goal.returns-then-pivot-gt0-clause-value
returns-then-pivot-gt0-clause-value c =
    λ q l. turned_above (get_or c.args.row.now q (pos 0)) c.args.pivot (get_or c.negate.new.row q (pos 0)) (test_above c.args.pivot _ (to_z-of_z _ _ c.ranges.pivot) c.if-pivot-gt0.true) (c.negate.ensures.value q l)

pub returns-else-pivot-gt0-clause-value : goal.returns-else-pivot-gt0-clause-value
returns-else-pivot-gt0-clause-value c =
    λ q l. turned_below (get_or c.args.row.now q (pos 0)) c.args.pivot (get_or c.args.row.now q (pos 0)) (test_below c.args.pivot _ (to_z-of_z _ _ c.ranges.pivot) c.if-pivot-gt0.false) refl

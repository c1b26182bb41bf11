use Rattle.std.proofs.Common.{◌≡◌, ◌++◌, drop, map}
use Rattle.tetri_algebra.specs.Rational.{whole_ℚ}
use Rattle.tetri_dictionary.specs.Fractions.{rows_of}
use Rattle.tetri_dictionary.specs.Start.{slack_row}
use Rattle.tetri_dictionary.proofs.start.slack_rows.Given as goal

abbrev pub invariant-loop-i : goal.invariant-loop-i
invariant-loop-i l =
    rows_of l.rows.items ++ map (map whole_ℚ) (map (slack_row l.p.costs.items l.start) (drop l.i l.p.rows.items))
    ≡ map (map whole_ℚ) (map (slack_row l.p.costs.items l.start) l.p.rows.items)

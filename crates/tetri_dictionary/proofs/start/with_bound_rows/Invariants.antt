use Rattle.std.proofs.Common.{◌≡◌, ◌++◌, drop, map}
use Rattle.tetri_algebra.specs.Rational.{whole_ℚ}
use Rattle.tetri_dictionary.specs.Fractions.{rows_of}
use Rattle.tetri_dictionary.specs.Start.{bound_rows}
use Rattle.tetri_dictionary.proofs.start.with_bound_rows.Given as goal

abbrev pub invariant-loop-j : goal.invariant-loop-j
invariant-loop-j l =
    rows_of l.rows.items ++ map (map whole_ℚ) (bound_rows l.j l.p.costs.items (drop l.j l.r.lower.items) (drop l.j l.r.upper.items))
    ≡ rows_of l.fn.rows.items ++ map (map whole_ℚ) (bound_rows 0 l.p.costs.items l.r.lower.items l.r.upper.items)

use Rattle.std.proofs.Common.{◌≡◌, ◌++◌, drop, map, length}
use Rattle.tetri_algebra.specs.Rational.{whole_ℚ}
use Rattle.tetri_dictionary.specs.Mixed.{mixed_rows, AreMixedRows}
use Rattle.tetri_dictionary.specs.Start.{bound_rows}
use Rattle.tetri_dictionary.proofs.whole_start.with_bounds.Given as goal

abbrev pub invariant-loop-j : goal.invariant-loop-j
invariant-loop-j l = record {
  formed :
      mixed_rows l.rows.items ++ map (map whole_ℚ) (bound_rows l.j l.p.costs.items (drop l.j l.r.lower.items) (drop l.j l.r.upper.items))
      ≡ mixed_rows l.fn.rows.items ++ map (map whole_ℚ) (bound_rows 0 l.p.costs.items l.r.lower.items l.r.upper.items);
  sound : AreMixedRows (length l.p.costs.items) l.rows.items;
}

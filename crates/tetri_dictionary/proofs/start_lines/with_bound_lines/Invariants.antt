use Rattle.std.proofs.Common.{◌≡◌, ◌++◌, drop, map, length}
use Rattle.tetri_algebra.specs.Rational.{whole_ℚ}
use Rattle.tetri_dictionary.specs.Sparse.{AreLines, lines_of}
use Rattle.tetri_dictionary.specs.Start.{bound_rows}
use Rattle.tetri_dictionary.proofs.start_lines.with_bound_lines.Given as goal

abbrev pub invariant-loop-j : goal.invariant-loop-j
invariant-loop-j l = record {
  formed :
      lines_of (length l.p.costs.items) l.lines.items ++ map (map whole_ℚ) (bound_rows l.j l.p.costs.items (drop l.j l.r.lower.items) (drop l.j l.r.upper.items))
      ≡ lines_of (length l.p.costs.items) l.fn.lines.items ++ map (map whole_ℚ) (bound_rows 0 l.p.costs.items l.r.lower.items l.r.upper.items);
  sound : AreLines (length l.p.costs.items) l.lines.items;
}

use Rattle.std.proofs.Common.{◌≡◌, ◌++◌, drop, map, length}
use Rattle.tetri_algebra.specs.Rational.{whole_ℚ}
use Rattle.tetri_dictionary.specs.Sparse.{AreLines, lines_of}
use Rattle.tetri_dictionary.specs.Start.{slack_row}
use Rattle.tetri_dictionary.proofs.start_lines.slack_lines.Given as goal

abbrev pub invariant-loop-i : goal.invariant-loop-i
invariant-loop-i l = record {
  formed :
      lines_of (length l.p.costs.items) l.lines.items ++ map (map whole_ℚ) (map (slack_row l.p.costs.items l.start) (drop l.i l.p.rows.items))
      ≡ map (map whole_ℚ) (map (slack_row l.p.costs.items l.start) l.p.rows.items);
  sound : AreLines (length l.p.costs.items) l.lines.items;
}

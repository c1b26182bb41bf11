use Rattle.std.proofs.Common.{◌≡◌}
use Rattle.tetri_dictionary.specs.Pivots.{next_row}
use Rattle.tetri_dictionary.specs.Sparse.{AreLines, line_of, lines_of}
use Rattle.tetri_dictionary.specs.Steps.{each}
use Rattle.tetri_dictionary.proofs.TableRows.{rest_of}
use Rattle.tetri_dictionary.proofs.lines.replace_lines.Given as goal

abbrev pub invariant-loop-k : goal.invariant-loop-k
invariant-loop-k l = record {
  formed : rest_of (next_row l.columns l.i l.j (line_of l.columns l.solved)) l.i (line_of l.columns l.solved) (lines_of l.columns l.lines) l.k ≡ each (next_row l.columns l.i l.j (line_of l.columns l.solved)) 0 (lines_of l.columns l.fn.lines);
  sound : AreLines l.columns l.lines;
}

use Rattle.std.proofs.Common.{◌≡◌}
use Rattle.tetri_dictionary.specs.Fractions.{values, rows_of, AreWide}
use Rattle.tetri_dictionary.specs.Steps.{each}
use Rattle.tetri_dictionary.specs.Pivots.{next_row}
use Rattle.tetri_dictionary.proofs.TableRows.{rest_of}
use Rattle.tetri_dictionary.proofs.rows.replace_rows.Given as goal

abbrev pub invariant-loop-k : goal.invariant-loop-k
invariant-loop-k l = record {
  formed : rest_of (next_row l.columns l.i l.j (values l.solved)) l.i (values l.solved) (rows_of l.rows) l.k ≡ each (next_row l.columns l.i l.j (values l.solved)) 0 (rows_of l.fn.rows);
  wide : AreWide l.columns l.rows;
}

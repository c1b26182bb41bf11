use Rattle.std.proofs.Common.{◌≡◌, length}
use Rattle.tetri_dictionary.specs.Fractions.{values}
use Rattle.tetri_dictionary.specs.Pivots.{solved_row}
use Rattle.tetri_dictionary.proofs.Forming.{onto}
use Rattle.tetri_dictionary.proofs.Entries.{solved_from}
use Rattle.tetri_dictionary.proofs.rows.solved_row.Given as goal

abbrev pub invariant-loop-k : goal.invariant-loop-k
invariant-loop-k l = record {
  formed : onto (values l.solved.items) (solved_from l.columns l.i l.j l.row l.k) ≡ solved_row l.columns l.i l.j (values l.row);
  count : length l.solved.items ≡ l.k;
}

use Rattle.std.proofs.Common.{◌≡◌, ◌≤◌, ℕ, [], length, get_or}
use Rattle.tetri_dictionary.specs.Below.{below_of}
use Rattle.tetri_dictionary.specs.declared.mixed.MixedRow.{MixedRow}
use Rattle.tetri_dictionary.specs.Holders.{bit, IsHolder}
use Rattle.tetri_dictionary.specs.Mixed.{mixed_row, mixed_rows, AreFractionsOfRow, AreMixedRows}
use Rattle.tetri_dictionary.specs.Pivots.{next_row}
use Rattle.tetri_dictionary.specs.Steps.{each}
use Rattle.tetri_dictionary.proofs.TableRows.{rest_of}
use Rattle.tetri_dictionary.proofs.mixed.replace_mixed.Given as goal

abbrev pub invariant-loop : goal.invariant-loop
invariant-loop l = record {
  formed : rest_of (next_row l.columns l.i l.j (mixed_row l.solved)) l.i (mixed_row l.solved) (mixed_rows l.rows) l.from ≡ each (next_row l.columns l.i l.j (mixed_row l.solved)) 0 (mixed_rows l.fn.rows);
  sound : AreMixedRows l.columns l.rows;
  known : AreFractionsOfRow l.solved l.known;
  below : l.below ≡ below_of (mixed_rows l.rows);
  holder : IsHolder l.own (mixed_rows l.fn.rows) l.j;
  untouched : (q : ℕ) (r : MixedRow) → bit l.own q ≡ 0 → get_or l.rows q r ≡ get_or l.fn.rows q r;
  later : (q : ℕ) (r : MixedRow) → l.from ≤ q → get_or l.rows q r ≡ get_or l.fn.rows q r;
  there : (q : ℕ) → l.from ≤ q → get_or (mixed_rows l.rows) q [] ≡ get_or (mixed_rows l.fn.rows) q [];
  least : l.counter ≤ l.from;
  most : l.from ≤ length l.rows;
}

use Rattle.std.proofs.Common.{◌≡◌, length, take}
use Rattle.tetri_dictionary.specs.Mixed.{mixed_rows, AreMixedRows}
use Rattle.tetri_dictionary.specs.Pairs.{table_of}
use Rattle.tetri_dictionary.proofs.pairs_out.rows_out.Given as goal

abbrev pub invariant-loop-i : goal.invariant-loop-i
invariant-loop-i l = record {
  front : mixed_rows l.rows.items ≡ take l.i ((table_of l.t).rows);
  sound : AreMixedRows (length l.t.nonbasic.items) l.rows.items;
}

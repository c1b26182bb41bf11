use Rattle.std.proofs.Common.{◌≡◌}
use Rattle.tetri_num.specs.Frac.{value}
use Rattle.tetri_dictionary.specs.Fractions.{values}
use Rattle.tetri_dictionary.specs.Pivots.{replaced_row}
use Rattle.tetri_dictionary.proofs.Entries.{replaced_from}
use Rattle.tetri_dictionary.proofs.rows.replace_row.Given as goal

abbrev pub invariant-loop-k : goal.invariant-loop-k
invariant-loop-k l = replaced_from l.columns l.i (value l.factor) l.solved l.row l.k ≡ replaced_row l.columns l.i l.j (values l.solved) (values l.fn.row)

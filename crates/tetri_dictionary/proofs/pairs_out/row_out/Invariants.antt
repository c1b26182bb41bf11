use Rattle.std.proofs.Common.{◌≡◌, take}
use Rattle.tetri_dictionary.specs.Fractions.{values}
use Rattle.tetri_dictionary.specs.Pairs.{table_of}
use Rattle.tetri_dictionary.specs.Tables.{row_at}
use Rattle.tetri_dictionary.proofs.pairs_out.row_out.Given as goal

abbrev pub invariant-loop-k : goal.invariant-loop-k
invariant-loop-k l = values l.numbers.items ≡ take l.k (row_at (table_of l.t) l.i)

use Rattle.std.proofs.Common.{◌≡◌, map, take}
use Rattle.tetri_num.specs.Frac.{value}
use Rattle.tetri_rows.specs.Rows.{meaning}
use Rattle.tetri_rows.proofs.rows.fractions.Given as goal

abbrev pub invariant-loop-k : goal.invariant-loop-k
invariant-loop-k l = map value l.numbers.items ≡ take l.k (meaning l.den l.row)

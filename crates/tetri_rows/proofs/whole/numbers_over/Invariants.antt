use Rattle.std.proofs.Common.{◌≡◌, map, take}
use Rattle.std.specs.Prelude.{All}
use Rattle.tetri_num.specs.Frac.{value}
use Rattle.tetri_rows.specs.Small.{IsShort}
use Rattle.tetri_rows.specs.Rows.{meaning}
use Rattle.tetri_rows.proofs.whole.numbers_over.Given as goal

abbrev pub invariant-loop-k : goal.invariant-loop-k
invariant-loop-k l = record {
  same : meaning l.fn.den l.numbers.items ≡ take l.k (map value l.row);
  short : All IsShort l.numbers.items;
}

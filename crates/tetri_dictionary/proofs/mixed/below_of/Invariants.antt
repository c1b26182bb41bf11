use Rattle.std.proofs.Common.{◌≡◌, take}
use Rattle.tetri_dictionary.specs.Below.{below_of}
use Rattle.tetri_dictionary.specs.Mixed.{mixed_rows}
use Rattle.tetri_dictionary.proofs.mixed.below_of.Given as goal

abbrev pub invariant-loop-k : goal.invariant-loop-k
invariant-loop-k l = l.below.items ≡ take l.k (below_of (mixed_rows l.rows))

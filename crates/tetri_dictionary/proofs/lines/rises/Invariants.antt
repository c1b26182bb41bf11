use Rattle.std.proofs.Common.{◌≡◌, ◌<◌, ℕ, false}
use Rattle.tetri_dictionary.specs.Sparse.{number_at}
use Rattle.tetri_dictionary.specs.Tables.{is_positive}
use Rattle.tetri_dictionary.proofs.lines.rises.Given as goal

abbrev pub invariant-loop-k : goal.invariant-loop-k
invariant-loop-k l = (q : ℕ) → q < l.k → is_positive (number_at l.entries q) ≡ false

use Rattle.std.proofs.Common.{◌≡◌, drop}
use lib.IntN.{ℤ}
use Rattle.tetri_dictionary.specs.Choices.{has_positive}
use Rattle.tetri_dictionary.specs.Mirrors.{mirror}
use Rattle.tetri_dictionary.specs.Mixed.{mixed_row}
use Rattle.tetri_dictionary.specs.Tables.{coefficients_of}
use Rattle.tetri_dictionary.proofs.pairs_numbers.falls.Given as goal

abbrev pub invariant-loop-j : goal.invariant-loop-j
invariant-loop-j l = (w : ℤ) → has_positive (drop l.j (coefficients_of (mirror w (mixed_row l.row)))) ≡ has_positive (coefficients_of (mirror w (mixed_row l.row)))

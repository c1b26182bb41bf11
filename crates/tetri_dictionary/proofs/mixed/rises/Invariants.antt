use Rattle.std.proofs.Common.{◌≡◌, drop}
use Rattle.tetri_dictionary.specs.Choices.{has_positive}
use Rattle.tetri_dictionary.specs.Mixed.{mixed_row}
use Rattle.tetri_dictionary.specs.Tables.{coefficients_of}
use Rattle.tetri_dictionary.proofs.mixed.rises.Given as goal

abbrev pub invariant-loop-j : goal.invariant-loop-j
invariant-loop-j l = has_positive (drop l.j (coefficients_of (mixed_row l.row))) ≡ has_positive (coefficients_of (mixed_row l.row))

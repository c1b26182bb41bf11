use Rattle.std.proofs.Common.{◌≡◌, drop}
use Rattle.tetri_dictionary.specs.Choices.{has_positive}
use Rattle.tetri_dictionary.specs.Tables.{coefficients_of}
use Rattle.tetri_dictionary.specs.Fractions.{values}
use Rattle.tetri_dictionary.proofs.choices.has_positive.Given as goal

abbrev pub invariant-loop-k : goal.invariant-loop-k
invariant-loop-k l = has_positive (drop l.k (values l.row)) ≡ has_positive (coefficients_of (values l.row))

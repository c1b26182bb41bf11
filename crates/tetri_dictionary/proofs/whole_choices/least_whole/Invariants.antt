use Rattle.std.proofs.Common.{◌≡◌, ℕ, None, IfSome}
use lib.IntN.{ℤ}
use Rattle.tetri_rows.specs.Rows.{meaning}
use Rattle.tetri_rows.specs.Small.{IsDenominator}
use Rattle.tetri_dictionary.specs.Choices.{entering_from}
use Rattle.tetri_dictionary.specs.SignedNumbers.{signed_numbers}
use Rattle.tetri_dictionary.specs.Tables.{coefficients_of}
use Rattle.tetri_dictionary.specs.WholeRatios.{ratio_candidate, IsAbove}
use Rattle.tetri_dictionary.proofs.MixedChoices.{rest_of}
use Rattle.tetri_dictionary.proofs.whole_choices.least_whole.Given as goal

abbrev pub invariant-loop-j : goal.invariant-loop-j
invariant-loop-j l = record {
  formed : (d e : ℤ) (i : ℕ) → IsDenominator d → IsDenominator e →
      rest_of l.nonbasic i (meaning d (signed_numbers l.other l.numbers)) (meaning e l.objective) l.j (ratio_candidate d e (signed_numbers l.other l.numbers) l.objective l.best)
      ≡ entering_from l.nonbasic i 0 (coefficients_of (meaning d (signed_numbers l.other l.numbers))) (coefficients_of (meaning e l.objective)) None;
  above : IfSome l.best (IsAbove (signed_numbers l.other l.numbers));
}

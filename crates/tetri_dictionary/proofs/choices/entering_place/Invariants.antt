use Rattle.std.proofs.Common.{◌≡◌, drop, None, IfSome}
use Rattle.tetri_dictionary.specs.Choices.{entering_from}
use Rattle.tetri_dictionary.specs.Candidates.{candidate_of, IsCandidate}
use Rattle.tetri_dictionary.specs.Tables.{coefficients_of}
use Rattle.tetri_dictionary.specs.Fractions.{values}
use Rattle.tetri_dictionary.proofs.choices.entering_place.Given as goal

abbrev pub invariant-loop-j : goal.invariant-loop-j
invariant-loop-j l = record {
  formed :
      entering_from l.nonbasic l.i l.j (drop l.j (coefficients_of (values l.row))) (drop l.j (coefficients_of (values l.objective))) (candidate_of l.best)
      ≡ entering_from l.nonbasic l.i 0 (coefficients_of (values l.row)) (coefficients_of (values l.objective)) None;
  positive : IfSome l.best (λ b. IsCandidate l.nonbasic (values l.row) b);
}

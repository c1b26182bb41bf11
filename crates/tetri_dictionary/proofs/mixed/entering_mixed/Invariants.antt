use Rattle.std.proofs.Common.{◌≡◌, None, IfSome}
use Rattle.tetri_dictionary.specs.Candidates.{candidate_of, IsCandidate}
use Rattle.tetri_dictionary.specs.Choices.{entering_from}
use Rattle.tetri_dictionary.specs.Mixed.{mixed_row}
use Rattle.tetri_dictionary.specs.Tables.{coefficients_of}
use Rattle.tetri_dictionary.proofs.MixedChoices.{rest_of}
use Rattle.tetri_dictionary.proofs.mixed.entering_mixed.Given as goal

abbrev pub invariant-loop-j : goal.invariant-loop-j
invariant-loop-j l = record {
  formed : rest_of l.nonbasic l.i (mixed_row l.row) (mixed_row l.objective) l.j (candidate_of l.best) ≡ entering_from l.nonbasic l.i 0 (coefficients_of (mixed_row l.row)) (coefficients_of (mixed_row l.objective)) None;
  positive : IfSome l.best (λ b. IsCandidate l.nonbasic (mixed_row l.row) b);
}

use Rattle.tetri_dictionary.specs.Candidates.{candidate_of}
use Rattle.tetri_dictionary.proofs.SparseChoices.{IsEntering, IsAbove}
use Rattle.std.proofs.Common.{IfSome}
use Rattle.tetri_dictionary.proofs.lines.entering_entry.Given as goal

abbrev pub invariant-loop-k : goal.invariant-loop-k
invariant-loop-k l = record {
  walked : IsEntering l.nonbasic l.i l.entries l.objective l.k (candidate_of l.best);
  positive : IfSome l.best (λ c. IsAbove l.nonbasic l.entries c);
}

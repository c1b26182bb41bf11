use Rattle.std.proofs.Common.{ℕ, ◌<◌, ◌≤◌}
use Rattle.tetri_dictionary.specs.Fractions.{values}
use Rattle.tetri_cuts.specs.Tightening.{Passes}
use Rattle.tetri_cuts.proofs.tightening.first_cut.Given as goal

abbrev pub invariant-loop-d : goal.invariant-loop-d
invariant-loop-d l = (k : ℕ) → 2 ≤ k → k < l.d → Passes l.p (values l.point) l.q l.weights k → ⊥

use Rattle.std.proofs.Common.{◌≡◌, ℕ, ◌+◌, ◌++◌, List, length, drop}
use Rattle.tetri_compile.specs.Forms.{run}
use Rattle.tetri_wide.specs.Sketch.{form_of}
use Rattle.tetri_wide.proofs.walking.run_of.Given as goal

abbrev pub invariant-loop-place : goal.invariant-loop-place
invariant-loop-place l = (xs : List ℕ) → length xs ≡ l.count → form_of l.shares.items ++ run l.by (l.first + l.place) (drop l.place xs) ≡ run l.by l.first xs

-- Points of a box, by plain lists of costs, lower and upper bounds.
use Rattle.std.proofs.Common.{List, [], ◌∷◌}
use Rattle.std.specs.Prelude.{◌≤ℤ◌}
use lib.IntN.{ℤ}

-- one lower and one upper bound for each column, the lower one at most the upper
abbrev pub IsBox : List ℤ → List ℤ → List ℤ → Type 0
IsBox [] [] [] = Unit {0}
IsBox (c ∷ cs) (l ∷ ls) (u ∷ us) = (l ≤ℤ u) × IsBox cs ls us
IsBox cs ls us = ⊥

-- one number for each column, each within its bounds
abbrev pub IsPlaced : List ℤ → List ℤ → List ℤ → List ℤ → Type 0
IsPlaced [] [] [] [] = Unit {0}
IsPlaced (c ∷ cs) (l ∷ ls) (u ∷ us) (x ∷ xs) = (l ≤ℤ x) × (x ≤ℤ u) × IsPlaced cs ls us xs
IsPlaced cs ls us xs = ⊥

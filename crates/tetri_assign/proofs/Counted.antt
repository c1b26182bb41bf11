-- Facts of leaves and of the first of their count columns.
use Rattle.std.specs.Prelude.{◌≡◌, ℕ, ◌+◌, List, length}
use Rattle.tetri_strl.specs.declared.expr.Leaf.{Leaf}
use Rattle.tetri_strl.specs.Tree.{Tree, one, join, scale, barrier, Trees, none, more}
use Rattle.tetri_strl.specs.Worth.{worth_at}
use Rattle.tetri_compile.specs.Forms.{at_point, run}
use Rattle.tetri_compile.specs.Walk.{own_uppers, width}

module _ (inside : ℕ → List ℕ) (usable : ℕ → Leaf → ℕ) where
  module _ (P : Leaf → ℕ → Type 0) where
    abbrev mutual
      -- a fact of each leaf and of the number of its first column
      pub AtLeaves : Tree → ℕ → Type 0
      AtLeaves (one l) n = P l n
      AtLeaves (join op ts) n = AtLeavesOf ts (n + length (own_uppers inside usable op ts))
      AtLeaves (scale t s) n = AtLeaves t n
      AtLeaves (barrier t v) n = AtLeaves t n

      pub AtLeavesOf : Trees → ℕ → Type 0
      AtLeavesOf none n = Unit {0}
      AtLeavesOf (more t ts) n = AtLeaves t n × AtLeavesOf ts (n + width inside usable t)

  -- each leaf is worth what its counts make
  abbrev pub IsCounted : (ℕ → ℕ) → (Leaf → ℕ) → Tree → ℕ → Type 0
  IsCounted x value = AtLeaves (λ l n. value l ≡ worth_at l (at_point x (run 1 n (inside l.set))))

  abbrev pub AreCounted : (ℕ → ℕ) → (Leaf → ℕ) → Trees → ℕ → Type 0
  AreCounted x value = AtLeavesOf (λ l n. value l ≡ worth_at l (at_point x (run 1 n (inside l.set))))

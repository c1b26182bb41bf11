-- The values of the columns of a walk, in its order.
use Rattle.std.specs.Prelude.{ℕ, List, [], ◌∷◌, ◌++◌, map}
use Prim.Native.Nat.{zero, suc}
use Rattle.tetri_strl.specs.declared.expr.Leaf.{Leaf}
use Rattle.tetri_strl.specs.Tree.{Operator, greatest, least, added, Tree, one, join, scale, barrier, Trees, none, more}
use Rattle.tetri_strl.specs.Worth.{worth_by, worths_by}

-- 1 where the number is above 0
abbrev pub mark : ℕ → ℕ
mark zero = 0
mark (suc n) = 1

-- `value` is what a leaf is worth, and `taken` how many nodes of a partition it has
module _ (inside : ℕ → List ℕ) (value : Leaf → ℕ) (taken : Leaf → ℕ → ℕ) where
  -- the columns that a join has itself
  abbrev pub own_values : Operator → Trees → List ℕ
  own_values greatest ts = map mark (worths_by value ts)
  own_values least ts = worth_by value (join least ts) ∷ []
  own_values added ts = map mark (worths_by value ts)

  abbrev mutual
    pub values : Tree → List ℕ
    values (one l) = map (taken l) (inside l.set)
    values (join op ts) = own_values op ts ++ values_of ts
    values (scale t s) = values t
    values (barrier t v) = values t

    pub values_of : Trees → List ℕ
    values_of none = []
    values_of (more t ts) = values t ++ values_of ts

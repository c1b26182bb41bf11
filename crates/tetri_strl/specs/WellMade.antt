-- Which expressions are well made.
use Rattle.std.specs.Prelude.{◌≡◌, ℕ, ◌+◌, ◌*◌, ◌%◌, ◌≤◌, max, IsTrue, List, [], ◌∷◌, length, AllPairs, ◌≢◌}
use Rattle.tetri_strl.specs.declared.expr.Leaf.{Leaf}
use Rattle.tetri_strl.specs.Tree.{Operator, greatest, least, added, Tree, one, join, scale, barrier, Trees, none, more, leaves}
use Rattle.tetri_strl.specs.Worth.{greatest_of, added_of}
use Rattle.tetri_strl.specs.Aligned.{IsAligned}

-- the peak of a join whose parts have these peaks
abbrev pub peak_joined : Operator → List ℕ → ℕ
peak_joined greatest xs = greatest_of xs
peak_joined least xs = greatest_of xs
peak_joined added xs = added_of xs

abbrev mutual
  -- no worth exceeds it
  pub peak : Tree → ℕ
  peak (one l) = l.v
  peak (join op ts) = peak_joined op (peaks ts)
  peak (scale t s) = s * peak t
  peak (barrier t v) = max v (peak t)

  pub peaks : Trees → List ℕ
  peaks none = []
  peaks (more t ts) = peak t ∷ peaks ts

-- the greatest peak that an expression may have
abbrev pub PEAK : ℕ
PEAK = 1000000000000

-- the limits of a leaf by itself
pub record IsGoodLeaf (l : Leaf) : Type 0 where
  pub some_nodes : 1 ≤ l.k
  pub few_nodes : l.k ≤ 4096
  pub within : l.start ≤ 20000
  pub some_slots : 1 ≤ l.dur
  pub few_slots : l.dur ≤ 10000
  pub whole : IsTrue l.linear → l.v % l.k ≡ 0

-- a join has a part
abbrev pub HasChild : Trees → Type 0
HasChild none = ⊥
HasChild (more t ts) = Unit {0}

-- the limits that each part of an expression keeps by itself
abbrev mutual
  pub IsSound : Tree → Type 0
  IsSound (one l) = IsGoodLeaf l × (l.v ≤ PEAK)
  IsSound (join op ts) = HasChild ts × AreSound ts × (peak_joined op (peaks ts) ≤ PEAK)
  IsSound (scale t s) = IsSound t × (s ≤ PEAK) × (s * peak t ≤ PEAK)
  IsSound (barrier t v) = IsSound t × (v ≤ PEAK)

  pub AreSound : Trees → Type 0
  AreSound none = Unit {0}
  AreSound (more t ts) = IsSound t × AreSound ts

abbrev mutual
  -- how many parts stand one in another at most, a leaf being 1 deep
  pub depth : Tree → ℕ
  depth (one l) = 1
  depth (join op ts) = depth_of ts + 1
  depth (scale t s) = depth t + 1
  depth (barrier t v) = depth t + 1

  pub depth_of : Trees → ℕ
  depth_of none = 0
  depth_of (more t ts) = max (depth t) (depth_of ts)

-- the whole expression keeps all limits, and its leaves differ in number and are aligned
pub record IsWellMade (t : Tree) : Type 0 where
  pub sound : IsSound t
  pub aligned : IsAligned t
  pub distinct : AllPairs (λ l m. l.num ≢ m.num) (leaves t)
  pub few_leaves : length (leaves t) ≤ 128
  pub shallow : depth t ≤ 64

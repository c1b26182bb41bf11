-- Which expressions are aligned.
use Rattle.std.specs.Prelude.{◌≡◌, ℕ}
use Rattle.tetri_strl.specs.declared.expr.Leaf.{Leaf}
use Rattle.tetri_strl.specs.Tree.{Operator, greatest, least, added, Tree, one, join, scale, barrier, Trees, none, more}

module _ (P : Leaf → Type 0) where
  abbrev mutual
    -- a fact of each leaf
    pub EachLeaf : Tree → Type 0
    EachLeaf (one l) = P l
    EachLeaf (join op ts) = EachLeafOf ts
    EachLeaf (scale t s) = EachLeaf t
    EachLeaf (barrier t v) = EachLeaf t

    pub EachLeafOf : Trees → Type 0
    EachLeafOf none = Unit {0}
    EachLeafOf (more t ts) = EachLeaf t × EachLeafOf ts

-- the leaf starts in this slot
abbrev pub StartsAt : ℕ → Leaf → Type 0
StartsAt s l = l.start ≡ s

-- all leaves have one start
abbrev pub HasOneStart : Tree → Type 0
HasOneStart t = (s : ℕ) × EachLeaf (StartsAt s) t

-- what a join asks of the leaves below it
abbrev pub MeetsAt : Operator → Tree → Type 0
MeetsAt greatest t = Unit {0}
MeetsAt least t = HasOneStart t
MeetsAt added t = HasOneStart t

abbrev mutual
  -- all leaves below each least and each sum have one start
  pub IsAligned : Tree → Type 0
  IsAligned (one l) = Unit {0}
  IsAligned (join op ts) = MeetsAt op (join op ts) × AreAligned ts
  IsAligned (scale t s) = IsAligned t
  IsAligned (barrier t v) = IsAligned t

  pub AreAligned : Trees → Type 0
  AreAligned none = Unit {0}
  AreAligned (more t ts) = IsAligned t × AreAligned ts

abbrev mutual
  -- the start of the first leaf
  pub first_start : Tree → ℕ
  first_start (one l) = l.start
  first_start (join op ts) = first_start_of ts
  first_start (scale t s) = first_start t
  first_start (barrier t v) = first_start t

  pub first_start_of : Trees → ℕ
  first_start_of none = 0
  first_start_of (more t ts) = first_start t

-- Which allotments are thrifty for an expression.
use Rattle.std.specs.Prelude.{◌≡◌, ℕ, ◌==◌, ◌⊎◌, List, [], ◌∷◌, Contains, filter, map}
use Rattle.tetri_strl.specs.declared.expr.Leaf.{Leaf}
use Rattle.tetri_strl.specs.Aligned.{EachLeaf}
use Rattle.tetri_strl.specs.declared.grants.Grant.{Grant}
use Rattle.tetri_strl.specs.Tree.{Operator, greatest, least, added, Tree, one, join, scale, barrier, Trees, none, more, numbers, numbers_of}
use Rattle.tetri_strl.specs.Worth.{joined, worth_by, worths_by, leaf_worth}

-- `held` are the numbers of the leaves that have a grant
module _ (value : Leaf → ℕ) (held : List ℕ) where
  -- none of these leaves has a grant
  abbrev pub IsBare : List ℕ → Type 0
  IsBare ns = (n : ℕ) → Contains ns n → Contains held n → ⊥

  -- at most one of the parts has a grant below it
  abbrev pub AtMostOne : Trees → Type 0
  AtMostOne none = Unit {0}
  AtMostOne (more t ts) = (IsBare (numbers t) × AtMostOne ts) ⊎ IsBare (numbers_of ts)

  -- what a join asks of its parts
  abbrev pub MeetsOne : Operator → Trees → Type 0
  MeetsOne greatest ts = AtMostOne ts
  MeetsOne least ts = Unit {0}
  MeetsOne added ts = Unit {0}

  abbrev mutual
    -- no part that is worth 0 has a grant at it or below it, and at most one part of each `max` has
    pub IsThrifty : Tree → Type 0
    IsThrifty (one l) = value l ≡ 0 → IsBare (l.num ∷ [])
    IsThrifty (join op ts) =
        (joined op (worths_by value ts) ≡ 0 → IsBare (numbers_of ts)) × MeetsOne op ts
        × AreThrifty ts
    IsThrifty (scale t s) = (worth_by value (scale t s) ≡ 0 → IsBare (numbers t)) × IsThrifty t
    IsThrifty (barrier t v) = (worth_by value (barrier t v) ≡ 0 → IsBare (numbers t)) × IsThrifty t

    pub AreThrifty : Trees → Type 0
    AreThrifty none = Unit {0}
    AreThrifty (more t ts) = IsThrifty t × AreThrifty ts

-- the numbers of the job's leaves that have a grant
abbrev pub held_leaves : List Grant → ℕ → List ℕ
held_leaves a job = map (λ g. g.leaf) (filter (λ g. g.job == job) a)

-- some leaf of the expression has a grant of the job
abbrev pub HasGrant : List Grant → ℕ → Tree → Type 0
HasGrant a job t = (n : ℕ) × Contains (numbers t) n × Contains (held_leaves a job) n

-- the job's grants are thrifty for its expression
abbrev pub IsThriftyFor : List Grant → ℕ → Tree → Type 0
IsThriftyFor a job t = IsThrifty (leaf_worth a job) (held_leaves a job) t

-- all leaves of the job that have a grant start in one slot
abbrev pub HasOneHeldStart : List Grant → ℕ → Tree → Type 0
HasOneHeldStart a job t = (s : ℕ)
    × EachLeaf (λ l. Contains (held_leaves a job) l.num → l.start ≡ s) t

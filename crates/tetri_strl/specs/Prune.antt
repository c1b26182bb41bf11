-- An expression without the leaves that start outside a range of slots.
use Rattle.std.specs.Prelude.{◌≡◌, ℕ, Bool, false, ◌&&◌, nat_le, nat_lt, is_none, if◌then◌else◌, List, [], ◌∷◌, Option, Some, None}
use Rattle.std.specs.List.{list_any}
use Rattle.tetri_strl.specs.declared.expr.Leaf.{Leaf}
use Rattle.tetri_strl.specs.declared.grants.Grant.{Grant}
use Rattle.tetri_strl.specs.Aligned.{EachLeaf}
use Rattle.tetri_strl.specs.Worth.{granted, worth_by}
use Rattle.tetri_strl.specs.Tree.{Operator, greatest, least, added, Tree, one, join, scale, barrier, Trees, none, more, row}

-- the leaf starts in the range
abbrev pub starts_in : ℕ → ℕ → Leaf → Bool
starts_in from to l = nat_le from l.start && nat_lt l.start to

-- the parts that are not lost, in order
abbrev pub kept : List (Option Tree) → List Tree
kept [] = []
kept (None ∷ os) = kept os
kept (Some t ∷ os) = t ∷ kept os

-- a join of these parts, lost where there is none
abbrev pub join_kept : Operator → List Tree → Option Tree
join_kept op [] = None
join_kept op (t ∷ ts) = Some (join op (row (t ∷ ts)))

-- a join keeps the parts that are not lost; a `min` with a lost part is lost
abbrev pub pruned_join : Operator → List (Option Tree) → Option Tree
pruned_join greatest os = join_kept greatest (kept os)
pruned_join least os = if list_any is_none os then None else join_kept least (kept os)
pruned_join added os = join_kept added (kept os)

-- a factor is lost with its part
abbrev pub pruned_scale : Option Tree → ℕ → Option Tree
pruned_scale None s = None
pruned_scale (Some t) s = Some (scale t s)

-- a barrier is lost with its part
abbrev pub pruned_barrier : Option Tree → ℕ → Option Tree
pruned_barrier None v = None
pruned_barrier (Some t) v = Some (barrier t v)

module _ (from to : ℕ) where
  abbrev mutual
    -- without the leaves that start outside the range
    pub pruned : Tree → Option Tree
    pruned (one l) = if starts_in from to l then Some (one l) else None
    pruned (join op ts) = pruned_join op (pruned_of ts)
    pruned (scale t s) = pruned_scale (pruned t) s
    pruned (barrier t v) = pruned_barrier (pruned t) v

    pub pruned_of : Trees → List (Option Tree)
    pruned_of none = []
    pruned_of (more t ts) = pruned t ∷ pruned_of ts

-- what is lost is worth nothing
abbrev pub worth_kept : (Leaf → ℕ) → Option Tree → ℕ
worth_kept value None = 0
worth_kept value (Some t) = worth_by value t

-- the job's leaves that start outside the range are granted nothing
abbrev pub GrantsOnlyIn : ℕ → ℕ → List Grant → ℕ → Tree → Type 0
GrantsOnlyIn from to a job t = EachLeaf (λ l. starts_in from to l ≡ false
    → granted a job l.num ≡ 0) t

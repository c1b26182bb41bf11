-- The size of a program without the program.
use Rattle.std.specs.Prelude.{ℕ, ◌+◌, ◌<◌, ◌≤◌, ◌^◌, All, length, Bool, ◌&&◌, nat_lt, nat_le, if◌then◌else◌, List, [], ◌∷◌, ◌++◌}
use Rattle.std.specs.List.{list_any}
use Rattle.tetri_strl.specs.declared.expr.Leaf.{Leaf}
use Rattle.tetri_strl.specs.Tree.{greatest, least, added, Tree, one, join, scale, barrier, Trees, none, more, leaves}
use Rattle.tetri_base.specs.Lists.{has}
use Rattle.tetri_space.specs.Partitions.{Parts, parts_found}
use Rattle.tetri_space.specs.Slots.{meets}
use Rattle.tetri_space.specs.Space.{Bid}

-- the columns of a walk, where `many` gives the number of partitions in a set
module _ (many : ℕ → ℕ) where
  abbrev mutual
    pub width_by : Tree → ℕ
    width_by (one l) = many l.set
    width_by (join greatest ts) = widths_marked ts
    width_by (join least ts) = 1 + widths_by ts
    width_by (join added ts) = widths_marked ts
    width_by (scale t s) = width_by t
    width_by (barrier t v) = width_by t

    pub widths_by : Trees → ℕ
    widths_by none = 0
    widths_by (more t ts) = width_by t + widths_by ts

    -- with an indicator each
    pub widths_marked : Trees → ℕ
    widths_marked none = 0
    widths_marked (more t ts) = 1 + width_by t + widths_marked ts

abbrev mutual
  -- the rows of a walk
  pub row_total : Tree → ℕ
  row_total (one l) = if l.linear then 1 else 2
  row_total (join greatest ts) = 1 + row_totals ts
  row_total (join least ts) = row_totals_under ts
  row_total (join added ts) = 1 + row_totals ts
  row_total (scale t s) = row_total t
  row_total (barrier t v) = 1 + row_total t

  pub row_totals : Trees → ℕ
  row_totals none = 0
  row_totals (more t ts) = row_total t + row_totals ts

  -- with one more row each
  pub row_totals_under : Trees → ℕ
  row_totals_under none = 0
  row_totals_under (more t ts) = 1 + row_total t + row_totals_under ts

-- the leaf uses its nodes in this slot
abbrev pub covers : Leaf → ℕ → Bool
covers l t = nat_le l.start t && nat_lt t (l.start + l.dur)

-- the leaves of bids
abbrev pub leaves_in : List Bid → List Leaf
leaves_in [] = []
leaves_in (b ∷ bs) = leaves b.expr ++ leaves_in bs

-- some leaf in whose set the partition is uses its nodes in this slot
abbrev pub is_used : (ℕ → List ℕ) → List Leaf → ℕ → ℕ → Bool
is_used inside ls p t = list_any (λ l. covers l t && has (inside l.set) p) ls

-- the partitions in the set are there, and below this number
pub record IsUsable (p : Parts) (most k : ℕ) : Type 0 where
  pub known : k < length p.inside
  pub parts : All (λ q. q < most) (parts_found p k)

-- a leaf that starts in a window of 64 slots
pub record StartsInWindow (now : ℕ) (l : Leaf) : Type 0 where
  pub not_early : now ≤ l.start
  pub not_late : l.start < now + 64
  pub some_slots : 1 ≤ l.dur
  pub few_slots : l.dur ≤ 10000

-- the bit of a slot at this place in the window is set
abbrev pub has_slot : ℕ → ℕ → Bool
has_slot slots place = meets slots (2 ^ place)

-- the partitions in the sets of the leaves are there, and the leaves start in the window
pub record HasUsableParts (now : ℕ) (p : Parts) : Type 0 where
  pub few : length p.groups ≤ 4096
  pub sets : All (λ l. IsUsable p 4096 l.set) (leaves_in p.bids)
  pub leaves : All (λ l. (l.set < 4096) × StartsInWindow now l) (leaves_in p.bids)

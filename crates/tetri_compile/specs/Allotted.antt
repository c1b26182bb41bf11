-- The point that an allotment has: its marks and counts.
use Rattle.std.specs.Prelude.{ℕ, ◌&&◌, ◌==◌, if◌then◌else◌, Bool, List, [], ◌∷◌, ◌++◌, map, pos, Option, Some, None}
use Rattle.std.specs.List.{find}
use lib.IntN.{ℤ}
use Rattle.tetri_strl.specs.declared.grants.Grant.{Grant}
use Rattle.tetri_strl.specs.Trim.{trimmed}
use Rattle.tetri_strl.specs.Worth.{leaf_worth, worth_of}
use Rattle.tetri_base.specs.Lists.{sum_of, count, has}
use Rattle.tetri_space.specs.Partitions.{live_bids, partitions, part_at, parts_in}
use Rattle.tetri_space.specs.Space.{Bid, Space}
use Rattle.tetri_compile.specs.Marks.{mark, values}

-- the grant is for the job's leaf of this number
abbrev pub suits : ℕ → ℕ → Grant → Bool
suits job leaf g = g.job == job && g.leaf == leaf

-- how many nodes of this list the grants give to the job's leaf of this number
abbrev pub granted_in : List Grant → ℕ → ℕ → List ℕ → ℕ
granted_in a job leaf part = sum_of (λ g. if suits job leaf g then count (has part) g.nodes else 0) a

abbrev pub trimmed_for : List Grant → Option Bid → List Grant
trimmed_for a None = []
trimmed_for a (Some b) = trimmed a b.job b.expr

-- the job's grants that earn something, judged by its whole expression
abbrev pub earning : Space → List Grant → ℕ → List Grant
earning s a job = trimmed_for a (find (λ b. b.job == job) s.bids)

-- the values of the columns of bids, where `kept` gives the grants of a job
module _ (inside : ℕ → List ℕ) (parts : List (List ℕ)) (kept : ℕ → List Grant) where
  abbrev pub bid_values : Bid → List ℕ
  bid_values b =
      mark (worth_of (kept b.job) b.job b.expr)
      ∷ values inside (leaf_worth (kept b.job) b.job) (λ l p. granted_in (kept b.job) b.job l.num (part_at parts p)) b.expr

  abbrev pub values_of_bids : List Bid → List ℕ
  values_of_bids [] = []
  values_of_bids (b ∷ bs) = bid_values b ++ values_of_bids bs

-- Of an allotment, each indicator is 1 exactly where its part is worth more than 0 by the grants that earn
-- something, and each count is how many nodes of the partition they give to the leaf.
abbrev pub allotted : Space → List Grant → List ℕ
allotted s a = values_of_bids (parts_in s (partitions s)) (partitions s) (earning s a) (live_bids s)

-- the same as a point
abbrev pub point_of : Space → List Grant → List ℤ
point_of s a = map pos (allotted s a)

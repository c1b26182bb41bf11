-- What it is to grant exactly the counts of a point.
use Rattle.std.specs.Prelude.{◌≡◌, ℕ, Bool, ◌&&◌, ◌==◌, if◌then◌else◌, List}
use lib.IntN.{ℤ}
use Rattle.tetri_strl.specs.declared.grants.Grant.{Grant}
use Rattle.tetri_strl.specs.Worth.{granted}
use Rattle.tetri_base.specs.Lists.{sum_of}
use Rattle.tetri_space.specs.Partitions.{part_at, partitions}
use Rattle.tetri_space.specs.Space.{Space}
use Rattle.tetri_compile.specs.declared.outline.Tally.{Tally}
use Rattle.tetri_compile.specs.Allotted.{granted_in}
use Rattle.tetri_compile.specs.Draft.{draft}
use Rattle.tetri_assign.specs.Assigned.{count_at}

-- the sum of the counts at a point that pass the test
abbrev pub counted : Space → List ℤ → (Tally → Bool) → ℕ
counted s point p = sum_of (λ c. if p c then count_at point c.column else 0) (draft s).tallies

-- each leaf gets as many nodes as it has counts, and of each partition as many as its count of that
pub record GrantsCounts (s : Space) (point : List ℤ) (a : List Grant) : Type 0 where
  pub leaves : (job leaf : ℕ) → granted a job leaf ≡ counted s point (λ c. c.job == job && c.leaf.num == leaf)
  pub parts : (job leaf part : ℕ) →
      granted_in a job leaf (part_at (partitions s) part) ≡ counted s point (λ c. (c.job == job && c.leaf.num == leaf) && c.part == part)

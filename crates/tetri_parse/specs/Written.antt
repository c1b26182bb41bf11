-- What the first pass grants of what a text spells.
use Rattle.std.specs.Prelude.{◌≡◌, ℕ, ◌+◌, ◌-◌, ◌≤◌, ◌<◌, All, IfSome}
use Rattle.std.specs.List.Sorted.{IsStrictlyIncreasing}
use Rattle.tetri_strl.specs.WellMade.{PEAK}
use Rattle.tetri_parse.specs.LeafText.{LeafText}
use Rattle.tetri_parse.specs.Phrase.{Phrase, Phrases, asked, joined, scaled, barred, nothing, followed}

-- the limits of a leaf's numbers
pub record IsWrittenLeaf (l : LeafText) : Type 0 where
  pub some_nodes : 1 ≤ l.k
  pub few_nodes : l.k ≤ 4096
  pub within : l.start ≤ 10000
  pub some_slots : 1 ≤ l.dur
  pub few_slots : l.dur ≤ 10000
  pub small : l.v ≤ PEAK
  pub ascending : IfSome l.nodes IsStrictlyIncreasing

abbrev pub HasPart : Phrases → Type 0
HasPart nothing = ⊥
HasPart (followed p ps) = Unit {0}

abbrev mutual
  -- all numbers are within their limits
  pub IsWritten : Phrase → Type 0
  IsWritten (asked l) = IsWrittenLeaf l
  IsWritten (joined op left ps) = AreWritten ps
  IsWritten (scaled left p s) = IsWritten p × (s ≤ PEAK)
  IsWritten (barred left p v) = IsWritten p × (v ≤ PEAK)

  pub AreWritten : Phrases → Type 0
  AreWritten nothing = Unit {0}
  AreWritten (followed p ps) = IsWritten p × AreWritten ps

-- the leaf of this number, over nodes of a cluster of so many
pub record IsLeafFrom (count from : ℕ) (l : LeafText) (to : ℕ) : Type 0 where
  pub written : IsWrittenLeaf l
  pub known : IfSome l.nodes (All (λ n. n < count))
  pub number : l.num ≡ from
  pub next : to ≡ from + 1
  pub few : to ≤ 128

-- within a cluster of so many nodes
module _ (count : ℕ) where
  abbrev mutual
    -- what a word begins, with parts of at most so many levels, whose leaves are numbered from the one number up to the other
    pub IsBody : ℕ → ℕ → Phrase → ℕ → Type 0
    IsBody below from (asked l) to = IsLeafFrom count from l to
    IsBody below from (joined op left ps) to = HasPart ps × AreSpelled below from ps to
    IsBody below from (scaled left p s) to = ((1 ≤ below) × IsBody (below - 1) from p to) × (s ≤ PEAK)
    IsBody below from (barred left p v) to = ((1 ≤ below) × IsBody (below - 1) from p to) × (v ≤ PEAK)

    pub AreSpelled : ℕ → ℕ → Phrases → ℕ → Type 0
    AreSpelled levels from nothing to = to ≡ from
    AreSpelled levels from (followed p ps) to = (mid : ℕ) × ((1 ≤ levels) × IsBody (levels - 1) from p mid) × AreSpelled levels mid ps to

  -- an expression of at most so many levels
  abbrev pub IsSpelled : ℕ → ℕ → Phrase → ℕ → Type 0
  IsSpelled levels from p to = (1 ≤ levels) × IsBody (levels - 1) from p to

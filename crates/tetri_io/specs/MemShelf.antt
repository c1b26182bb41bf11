-- What the shelf in memory holds, and which of its reads fail.
use Rattle.std.specs.Prelude.{ℕ, ◌≡◌, ◌-◌, min, List, length, Option, None, option_map, IsSome, Contains}
use Rattle.std.specs.BTreeMap.{get_by_text}
use Rattle.tetri_io.specs.Causes.{one_more}
use Rattle.tetri_io.specs.declared.mem_shelf.MemShelf.{MemShelf}

-- what a name holds
abbrev pub held : MemShelf → List ℕ → Option (List ℕ)
held s name = option_map (λ v. v.items) (get_by_text s.names name)

-- how many reads failed
abbrev pub fault_count : MemShelf → ℕ
fault_count s = s.faults

-- how many reads there were
abbrev pub read_count : MemShelf → ℕ
read_count s = s.calls

-- the numbers of the reads that fail
abbrev pub failing_reads : MemShelf → List ℕ
failing_reads s = s.failing.items

-- how many bytes a read gives from an offset of a content on, at a buffer of this length
abbrev pub read_size : MemShelf → List ℕ → ℕ → ℕ → ℕ
read_size s content offset room = min (min room s.most) (length content - offset)

-- The next read of this name succeeds: the name is held, and the read's number is not listed.
abbrev pub NextReadSucceeds : MemShelf → List ℕ → Type 0
NextReadSucceeds s name = IsSome (held s name) × (¬ Contains s.failing.items (one_more s.calls))

-- Reads give as much, and the same reads fail.
pub record KeepsReadRules (old new : MemShelf) : Type 0 where
  pub most : new.most ≡ old.most
  pub failing : failing_reads new ≡ failing_reads old

-- No name is held, and nothing was read.
pub record IsFreshShelf (most : ℕ) (failing : List ℕ) (s : MemShelf) : Type 0 where
  pub empty : (name : List ℕ) → held s name ≡ None
  pub most_is : s.most ≡ most
  pub failing_is : failing_reads s ≡ failing
  pub reads : read_count s ≡ 0
  pub faults : fault_count s ≡ 0

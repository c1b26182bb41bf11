-- Nodes grouped by their signatures: the sets that they are in, and when they close and open.
use Rattle.std.specs.Prelude.{◌≡◌, ℕ, ◌<◌, ◌≤◌, All, Contains, length, Bool, true, false, ◌&&◌, not, List, [], ◌∷◌, ◌++◌, map, bytes_eq, Vec}
use Rattle.std.specs.List.{list_any, filter, range_with_len}
use Rattle.std.specs.List.Sorted.{IsStrictlyIncreasing}
use Rattle.std.specs.declared.alloc.Global.{Global}
use Rattle.tetri_base.specs.Lists.{has, list_at}
use Rattle.tetri_space.specs.Closed.{AreTurns}
use Rattle.tetri_space.specs.Partitions.{live_bids, partitions, parts_in, sets_in}
use Rattle.tetri_space.specs.Space.{Space}

-- whether the list has an item
abbrev pub has_some : List ℕ → Bool
has_some [] = false
has_some (x ∷ xs) = true

module _ (sig : ℕ → List ℕ) where
  -- the signature is not empty, and no lesser node has it
  abbrev pub is_first : ℕ → Bool
  is_first n = has_some (sig n)
      && not (list_any (λ m. bytes_eq (sig m) (sig n)) (range_with_len 0 n))

  -- the first nodes of their signatures, of the first n nodes
  abbrev pub firsts : ℕ → List ℕ
  firsts n = filter is_first (range_with_len 0 n)

  -- the nodes of each signature that is not empty, by least node
  abbrev pub grouped : ℕ → List (List ℕ)
  grouped n = map (λ m. filter (λ k. bytes_eq (sig m) (sig k)) (range_with_len 0 n)) (firsts n)

-- the signature of a node that is in these sets: they, and where there are some its turns past them
pub record IsSigned (s : Space) (base n : ℕ) (sets signature : List ℕ) : Type 0 where
  pub none : has_some sets ≡ false → signature ≡ sets
  pub some : has_some sets ≡ true
      → (ts : List ℕ) × (signature ≡ sets ++ ts) × AreTurns s.closures n s.now base ts

-- the signature of each partition, by partition
pub record AreSignatures (s : Space) (keys : List (Vec ℕ Global)) : Type 0 where
  pub ascending : All (λ v. IsStrictlyIncreasing v.items) keys
  pub few : length keys ≤ 4096
  pub parts : (k : ℕ) → Contains (sets_in (live_bids s)) k →
      (k < length s.sets)
      × (filter (λ p. has (list_at keys p) k) (range_with_len 0 (length keys))
      ≡ parts_in s (partitions s) k)

-- Which rows hold a variable, as bits of words.
use Rattle.std.specs.Prelude.{◌≡◌, ℕ, ◌+◌, ◌/◌, ◌%◌, ◌<◌, List, [], map, length, get_or, All}
use Rattle.std.specs.Global.{Vec}
use Prim.Native.Nat.{suc}
use Rattle.std.specs.Int.{bit_at}
use Rattle.tetri_algebra.specs.Rational.{ℚ}
use Rattle.tetri_algebra.specs.RationalRing.{zero_ℚ}

-- the bit of a row, 64 to a word
abbrev pub bit : List ℕ → ℕ → ℕ
bit words k = bit_at (get_or words (k / 64) 0) (k % 64)

-- the words of a nonbasic place
abbrev pub words_at : List (Vec ℕ) → ℕ → List ℕ
words_at holders j = get_or (map (λ (v : Vec ℕ). v.items) holders) j []

-- row k's coefficient at a nonbasic place
abbrev pub number_in : List (List ℚ) → ℕ → ℕ → ℚ
number_in rows k j = get_or (get_or rows k []) (suc j) zero_ℚ

-- a row whose bit is not set has 0 at the nonbasic place
abbrev pub IsHolder : List ℕ → List (List ℚ) → ℕ → Type 0
IsHolder words rows j = (k : ℕ) → bit words k ≡ 0 → number_in rows k j ≡ zero_ℚ

-- the same at each of n nonbasic places, with words for all rows
pub record AreHolders (n : ℕ) (holders : List (Vec ℕ)) (rows : List (List ℚ)) : Type 0 where
  pub columns : length holders ≡ n
  pub words : All (λ (v : Vec ℕ). length v.items ≡ length rows / 64 + 1) holders
  pub hold : (j : ℕ) → j < n → IsHolder (words_at holders j) rows j

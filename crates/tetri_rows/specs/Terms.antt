-- A row as its places that are not 0, and the numbers there.
use Rattle.std.specs.Prelude.{◌≡◌, ℕ, ◌<◌, List, length, get_or}
use lib.IntN.{ℤ, pos}
use Rattle.tetri_rows.specs.Rows.{combined}

-- each is a place of a row of n numbers
abbrev pub ArePlaces : List ℕ → ℕ → Type 0
ArePlaces places n = (q : ℕ) → q < length places → get_or places q 0 < n

abbrev pub IsAscending : List ℕ → Type 0
IsAscending places = (p q : ℕ) → p < q → q < length places → get_or places p 0 < get_or places q 0

-- the numbers at the places where a row is not 0
pub record AreTerms (places : List ℕ) (numbers : List ℤ) (row : List ℤ) : Type 0 where
  pub wide : length numbers ≡ length places
  pub within : ArePlaces places (length row)
  pub ascending : IsAscending places
  pub at : (q : ℕ) → q < length places → get_or row (get_or places q 0) (pos 0) ≡ get_or numbers q (pos 0)
  pub other : (p : ℕ) → p < length row → ((q : ℕ) → q < length places → get_or places q 0 ≡ p → ⊥) → get_or row p (pos 0) ≡ pos 0

-- the new number at the place of a term
abbrev pub term_at : ℤ → List ℤ → List ℕ → List ℤ → ℕ → ℤ
term_at f row places numbers q = combined (pos 1) f (get_or row (get_or places q 0) (pos 0)) (get_or numbers q (pos 0))

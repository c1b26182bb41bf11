-- One row for the two variables of a column: its distance from where it started and the slack of its bound add up to the width of its bounds.
use Rattle.std.specs.Prelude.{ℕ, ◌+◌, ◌<◌, ◌^◌, ◌≤ℤ◌, ◌<ℤ◌, List, [], ◌∷◌, map, get_or, cond, ◌==◌, unsigned_abs}
use Prim.Native.Nat.{zero, suc}
use lib.IntN.{ℤ, pos}
use Rattle.tetri_algebra.specs.Rational.{ℚ, whole_ℚ}
use Rattle.tetri_algebra.specs.RationalRing.{◌+ℚ◌, neg_ℚ, zero_ℚ}
use Rattle.tetri_dictionary.specs.declared.origins.Origin.{Origin}
use Rattle.tetri_dictionary.specs.declared.origins.Origin.TheVariants.{Kept, Mirror, Column}

-- the width less a row
abbrev pub mirror : ℤ → List ℚ → List ℚ
mirror w [] = []
mirror w (c ∷ more) = (whole_ℚ w +ℚ neg_ℚ c) ∷ map neg_ℚ more

-- 1 at place p and 0 elsewhere, of n places from k on
abbrev pub one_at : ℕ → ℕ → ℕ → List ℚ
one_at p k zero = []
one_at p k (suc n) = cond (p == k) (whole_ℚ (pos 1)) zero_ℚ ∷ one_at p (k + 1) n

-- the variable of nonbasic place p, of n, as a row
abbrev pub variable_row : ℕ → ℕ → List ℚ
variable_row n p = zero_ℚ ∷ one_at p 0 n

-- the row of a basic place, by the rows that are kept
abbrev pub row_from : ℕ → List (List ℚ) → Origin → List ℚ
row_from n rows (Kept r) = get_or rows r []
row_from n rows (Mirror r w) = mirror w (get_or rows r [])
row_from n rows (Column p w) = mirror w (variable_row n p)

abbrev pub rows_from : ℕ → List (List ℚ) → List Origin → List (List ℚ)
rows_from n rows origins = map (row_from n rows) origins

-- a width for which the mirror of a row of short numbers is small
pub record IsWidth (w : ℤ) : Type 0 where
  pub least : pos 0 ≤ℤ w
  pub most : w <ℤ pos 1024

-- a mirror of one of m rows
pub record IsMirrorWithin (m r : ℕ) (w : ℤ) : Type 0 where
  pub row : r < m
  pub width : IsWidth w

-- of n nonbasic places and m kept rows
abbrev pub IsOrigin : ℕ → ℕ → Origin → Type 0
IsOrigin n m (Kept r) = r < m
IsOrigin n m (Mirror r w) = IsMirrorWithin m r w
IsOrigin n m (Column p w) = IsMirrorWithin n p w

-- below 2 ^ 100 in size: a width less it stays in range
pub record IsBounded (x : ℚ) : Type 0 where
  pub num : unsigned_abs x.num < 2 ^ 100
  pub den : x.den < 2 ^ 100

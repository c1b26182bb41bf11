-- Tables of the dual simplex method: each basic variable, and the objective, as a constant and a combination of the nonbasic variables.
use Rattle.std.specs.Prelude.{ℕ, List, [], ◌∷◌, length, get_or, Bool}
use lib.IntN.{pos}
use lib.Signed.{lt_z}
use Rattle.std.specs.Prelude.{◌*ℤ◌}
use Rattle.tetri_algebra.specs.Rational.{ℚ}
use Rattle.tetri_algebra.specs.RationalRing.{zero_ℚ}

-- A variable for each place. Each row is its constant and then its coefficients by nonbasic place; the last row is the objective's.
pub record Table : Type 0 where
  pub nonbasic : List ℕ
  pub basic : List ℕ
  pub rows : List (List ℚ)

-- the rows of the basic variables stand first
abbrev pub row_at : Table → ℕ → List ℚ
row_at t i = get_or t.rows i []

abbrev pub objective_of : Table → List ℚ
objective_of t = row_at t (length t.basic)

abbrev pub constant_of : List ℚ → ℚ
constant_of row = get_or row 0 zero_ℚ

abbrev pub coefficients_of : List ℚ → List ℚ
coefficients_of [] = []
coefficients_of (c ∷ more) = more

abbrev pub is_negative : ℚ → Bool
is_negative p = lt_z p.num (pos 0)

abbrev pub is_positive : ℚ → Bool
is_positive p = lt_z (pos 0) p.num

abbrev pub is_less : ℚ → ℚ → Bool
is_less p q = lt_z (p.num *ℤ pos q.den) (q.num *ℤ pos p.den)

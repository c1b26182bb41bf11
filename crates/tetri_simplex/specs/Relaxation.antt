-- Points of the linear relaxation of a program: a rational number for each column.
use Rattle.std.specs.Prelude.{◌≡◌, ℕ, ◌<◌, List, length, get_or, map}
use lib.IntN.{ℤ}
use Rattle.tetri_algebra.specs.Rational.{ℚ, whole_ℚ}
use Rattle.tetri_algebra.specs.RationalRing.{ℚ_ring, zero_ℚ, ◌*ℚ◌}
use Rattle.tetri_algebra.specs.RationalOrder.{◌≤ℚ◌}
use Rattle.tetri_algebra.specs.Sums.{sum_over, dot}
use Rattle.tetri_ip.specs.declared.programs.Program.{Program}
use Rattle.tetri_ip.specs.declared.programs.Term.{Term}
use Rattle.tetri_ip.specs.Points.{Bounds, number_at, terms_of, right_of}

-- the number of a column, and 0 past the end
abbrev pub coordinate : List ℚ → ℕ → ℚ
coordinate point j = get_or point j zero_ℚ

-- a rational number that is a whole one
abbrev pub IsWhole : ℚ → Type 0
IsWhole x = x.den ≡ 1

-- the numerators, which are the numbers themselves where these are whole
abbrev pub numerators : List ℚ → List ℤ
numerators point = map (λ (x : ℚ). x.num) point

-- the left side of a row at a point
abbrev pub left_value : List Term → List ℚ → ℚ
left_value ts point = sum_over ℚ_ring (λ (t : Term). whole_ℚ t.by *ℚ coordinate point t.column) ts

-- the sum of each column's cost times its number
abbrev pub objective_value : Program → List ℚ → ℚ
objective_value p point = dot ℚ_ring (map whole_ℚ p.costs.items) point

-- one number for each column, each within its bounds, and each row met
pub record IsRelaxedPoint (p : Program) (b : Bounds) (point : List ℚ) : Type 0 where
  pub count : length point ≡ length p.costs.items
  pub above : (j : ℕ) → j < length p.costs.items → whole_ℚ (number_at b.lower j) ≤ℚ coordinate point j
  pub below : (j : ℕ) → j < length p.costs.items → coordinate point j ≤ℚ whole_ℚ (number_at b.upper j)
  pub met : (k : ℕ) → k < length p.rows.items → left_value (terms_of p.rows.items k) point ≤ℚ whole_ℚ (right_of p.rows.items k)

-- The weighed number of a program over a region: the right side of weak duality with bounds.
use Rattle.std.specs.Prelude.{ℕ, ◌+◌, ◌<◌, List, [], ◌∷◌, length, slice_index_or, cond, ◌+ℤ◌, ◌-ℤ◌, ◌*ℤ◌, ◌≤ℤ◌, pos}
use Rattle.std.specs.List.{All}
use lib.IntN.{ℤ}
use lib.Signed.{lt_z}
use Rattle.tetri_algebra.specs.IntegerRing.{ℤ_ring}
use Rattle.tetri_algebra.specs.Sums.{sum_over}
use Rattle.tetri_ip.specs.declared.programs.Program.{Program}
use Rattle.tetri_ip.specs.declared.programs.Row.{Row}
use Rattle.tetri_ip.specs.declared.programs.Weight.{Weight}
use Rattle.tetri_ip.specs.Points.{Bounds, number_at, terms_of, right_of, coefficient}

-- the weight at a place, and row 0 with 0 past the end
abbrev pub weight_at : List Weight → ℕ → Weight
weight_at ws k = slice_index_or ws k (record { row = 0; by = pos 0 })

-- weights that ascend by row
abbrev pub WeightsAscend : List Weight → Type 0
WeightsAscend ws = (k m : ℕ) → k < m → m < length ws → (weight_at ws k).row < (weight_at ws m).row

-- no weight is below 0
abbrev pub AreNotNegative : List Weight → Type 0
AreNotNegative ws = All (λ w. pos 0 ≤ℤ w.by) ws

-- each weight's row is in the program
abbrev pub AreOfRows : Program → List Weight → Type 0
AreOfRows p ws = All (λ w. w.row < length p.rows.items) ws

-- the weighted sum of the right sides
abbrev pub right_sum : List Row → List Weight → ℤ
right_sum rows ws = sum_over ℤ_ring (λ w. w.by *ℤ right_of rows w.row) ws

-- the weighted sum of the coefficients of a column
abbrev pub column_sum : List Row → List Weight → ℕ → ℤ
column_sum rows ws j = sum_over ℤ_ring (λ w. w.by *ℤ coefficient (terms_of rows w.row) j) ws

-- the upper bound of a column where its factor is above 0, else the lower one
abbrev pub bound_taken : Bounds → ℕ → ℤ → ℤ
bound_taken b j d = cond (lt_z (pos 0) d) (number_at b.upper j) (number_at b.lower j)

-- the sum over the columns, whose costs are given from number j on
abbrev pub columns_from : List Row → Bounds → ℤ → List Weight → ℕ → List ℤ → ℤ
columns_from rows b q ws j [] = pos 0
columns_from rows b q ws j (c ∷ cs) =
    let d = q *ℤ c -ℤ column_sum rows ws j in d *ℤ bound_taken b j d +ℤ columns_from rows b q ws (j + 1) cs

-- the weighed number
abbrev pub weighed : Program → Bounds → ℤ → List Weight → ℤ
weighed p b q ws = right_sum p.rows.items ws +ℤ columns_from p.rows.items b q ws 0 p.costs.items

-- one row, taken once
abbrev pub once : ℕ → List Weight
once i = record { row = i; by = pos 1 } ∷ []

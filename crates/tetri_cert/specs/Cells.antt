-- Points that are given by their cells, and the tests of a point.
use Rattle.std.specs.Prelude.{ℕ, ◌+◌, ◌<◌, ◌==◌, List, [], ◌∷◌, ◌++◌, length, replicate, Bool, true, false, ◌&&◌, if◌then◌else◌, nat_lt, Option, Some, None, pos, slice_set, unsigned_abs}
use Rattle.std.specs.List.{All, list_all}
use lib.IntN.{ℤ}
use lib.Signed.{le_z}
use Rattle.tetri_algebra.specs.Rational.{ℚ}
use Rattle.tetri_num.specs.declared.fractions.Frac.{Frac}
use Rattle.tetri_ip.specs.declared.programs.Program.{Program}
use Rattle.tetri_ip.specs.declared.programs.Row.{Row}
use Rattle.tetri_ip.specs.Points.{Bounds, left_side, objective}
use Rattle.tetri_cert.specs.declared.marks.Cell.{Cell}
use Rattle.tetri_cert.specs.declared.marks.FracCell.{FracCell}
use Rattle.tetri_cert.specs.Numbers.{frac_of}

-- each cell is of one of the first n columns
abbrev pub are_of_columns : ℕ → List Cell → Bool
are_of_columns n cells = list_all (λ c. nat_lt c.column n) cells

-- the same, as a fact
abbrev pub AreOfColumns : ℕ → List Cell → Type 0
AreOfColumns n cells = All (λ c. c.column < n) cells

-- the numbers, with those of the cells put in
abbrev pub with_cells : List ℤ → List Cell → List ℤ
with_cells xs [] = xs
with_cells xs (c ∷ cs) = with_cells (slice_set xs c.column c.value) cs

-- one number for each column: its cell's, and 0 where it has no cell
abbrev pub point_of : ℕ → List Cell → List ℤ
point_of n cells = with_cells (replicate n (pos 0)) cells

-- a column's number as its cell, and none where it is 0
abbrev pub cell_at : ℕ → ℤ → List Cell
cell_at j x = if unsigned_abs x == 0 then [] else record { column = j; value = x } ∷ []

-- the cells of numbers whose columns are counted from j on
abbrev pub cells_from : ℕ → List ℤ → List Cell
cells_from j [] = []
cells_from j (x ∷ xs) = cell_at j x ++ cells_from (j + 1) xs

abbrev pub cells_of : List ℤ → List Cell
cells_of xs = cells_from 0 xs

-- the same of a fraction that is there
abbrev pub frac_cell_at : ℕ → Option Frac → List FracCell
frac_cell_at j None = []
frac_cell_at j (Some x) = if unsigned_abs x.num == 0 then [] else record { column = j; value = x } ∷ []

-- the cells of rational numbers, each as a fraction
abbrev pub frac_cells_from : ℕ → List ℚ → List FracCell
frac_cells_from j [] = []
frac_cells_from j (x ∷ xs) = frac_cell_at j (frac_of x.num (pos x.den)) ++ frac_cells_from (j + 1) xs

abbrev pub frac_cells_of : List ℚ → List FracCell
frac_cells_of xs = frac_cells_from 0 xs

-- three lists of one length: each number of the middle one is from that of the first to that of the last
abbrev pub are_between : List ℤ → List ℤ → List ℤ → Bool
are_between [] [] [] = true
are_between (l ∷ ls) (x ∷ xs) (u ∷ us) = (le_z l x && le_z x u) && are_between ls xs us
are_between ls xs us = false

abbrev pub are_met : List Row → List ℤ → Bool
are_met rows xs = list_all (λ r. le_z (left_side r.terms.items xs) r.right) rows

-- whether the numbers are a point of the region, for a region with a bound for each column
abbrev pub is_point : Program → Bounds → List ℤ → Bool
is_point p b xs = are_between b.lower xs b.upper && are_met p.rows.items xs

abbrev pub is_same : ℤ → ℤ → Bool
is_same x y = le_z x y && le_z y x

-- whether the cells are of a point of the region, with this objective
unfoldable pub is_whole_point : Program → Bounds → ℤ → List Cell → Bool
is_whole_point p b worth cells =
    let point = point_of (length p.costs.items) cells in
    are_of_columns (length p.costs.items) cells && (is_point p b point && is_same worth (objective p point))

-- The entries of lists: weights, and the cells of points.
use Rattle.std.specs.Prelude.{ℕ, ◌<◌, ◌==◌, ◌≢◌, ◌^◌, List, Option, Some, None, if◌then◌else◌, unsigned_abs}
use lib.IntN.{ℤ, pos}
use Rattle.tetri_io.specs.Codec.{Codec, both_in, image, pair, renamed}
use Rattle.tetri_ip.specs.declared.programs.Weight.{Weight}
use Rattle.tetri_algebra.specs.Range.{IsWithin}
use Rattle.tetri_num.specs.declared.fractions.Frac.{Frac}
use Rattle.tetri_cert.specs.Numbers.{fracs, small_numbers, whole_numbers}
use Rattle.tetri_base.specs.OptionSteps.{◌>>=◌}
use Rattle.tetri_cert.specs.declared.marks.Cell.{Cell}
use Rattle.tetri_cert.specs.declared.marks.FracCell.{FracCell}

-- ---- a key and a whole number
-- a key below 2^32, and a number in range that is not 0
pub record IsPair (key : ℕ) (by : ℤ) : Type 0 where
  pub narrow : key < 2 ^ 32
  pub nonzero : by ≢ pos 0
  pub within : IsWithin by

abbrev pub pair_of_parts : ℕ × ℤ → Option (ℕ × ℤ)
pair_of_parts p = if unsigned_abs p.1 == 0 then None else Some p

abbrev pub pairs : Codec (ℕ × ℤ)
pairs = image pair_of_parts (λ p. p) (λ p. IsPair p.0 p.1) (pair 58 small_numbers whole_numbers)

-- the pair that the texts of its parts give
abbrev pub pair_of_halves : List ℕ × List ℕ → Option (ℕ × ℤ)
pair_of_halves h = both_in small_numbers whole_numbers h >>= pair_of_parts

abbrev pub pair_in : List ℕ → Option (ℕ × ℤ)
pair_in word = pairs.read word

-- ---- weights
abbrev pub weights : Codec Weight
weights = renamed (λ p. record { row = p.0; by = p.1 }) (λ w. (w.row, w.by)) pairs

abbrev pub weight_key : Weight → ℕ
weight_key w = w.row

abbrev pub weight_text : Weight → List ℕ
weight_text w = weights.text w

abbrev pub IsPlainWeight : Weight → Type 0
IsPlainWeight w = weights.IsSuch w

abbrev pub weight_in : List ℕ → Option Weight
weight_in word = weights.read word

-- ---- cells of whole points
abbrev pub cells : Codec Cell
cells = renamed (λ p. record { column = p.0; value = p.1 }) (λ c. (c.column, c.value)) pairs

abbrev pub cell_key : Cell → ℕ
cell_key c = c.column

abbrev pub cell_text : Cell → List ℕ
cell_text c = cells.text c

abbrev pub IsPlainCell : Cell → Type 0
IsPlainCell c = cells.IsSuch c

abbrev pub cell_in : List ℕ → Option Cell
cell_in word = cells.read word

-- ---- cells of points of fractions
-- a column below 2^32, and a fraction that is not 0
pub record IsPlainFracCell (c : FracCell) : Type 0 where
  pub narrow : c.column < 2 ^ 32
  pub nonzero : c.value.num ≢ pos 0

abbrev pub frac_cell_of_parts : ℕ × Frac → Option FracCell
frac_cell_of_parts p = if unsigned_abs p.1.num == 0 then None else Some (record { column = p.0; value = p.1 })

abbrev pub frac_cells : Codec FracCell
frac_cells = image frac_cell_of_parts (λ c. (c.column, c.value)) IsPlainFracCell (pair 58 small_numbers fracs)

abbrev pub frac_cell_of_halves : List ℕ × List ℕ → Option FracCell
frac_cell_of_halves h = both_in small_numbers fracs h >>= frac_cell_of_parts

abbrev pub frac_cell_key : FracCell → ℕ
frac_cell_key c = c.column

abbrev pub frac_cell_text : FracCell → List ℕ
frac_cell_text c = frac_cells.text c

abbrev pub frac_cell_in : List ℕ → Option FracCell
frac_cell_in word = frac_cells.read word

-- Ratios of the numbers of two rows of whole numbers, by place.
use Rattle.std.specs.Prelude.{ℕ, ◌+◌, ◌<◌, ◌<ℤ◌, List, length, get_or, Option, Some, None}
use lib.IntN.{ℤ, pos}
use Rattle.tetri_algebra.specs.Rational.{ℚ}
use Rattle.tetri_rows.specs.Rows.{minus_ratio}

-- minus the number of the second row over that of the first, at the place behind k, where the coefficient of k stands
abbrev pub ratio_at : ℤ → ℤ → List ℤ → List ℤ → ℕ → ℚ
ratio_at d e ns os k = minus_ratio d e (get_or os (k + 1) (pos 0)) (get_or ns (k + 1) (pos 0))

-- a place with its ratio
abbrev pub ratio_candidate : ℤ → ℤ → List ℤ → List ℤ → Option ℕ → Option (ℕ × ℚ)
ratio_candidate d e ns os None = None
ratio_candidate d e ns os (Some k) = Some (k, ratio_at d e ns os k)

-- a place whose coefficient is above 0
pub record IsAbove (ns : List ℤ) (k : ℕ) : Type 0 where
  pub within : k + 1 < length ns
  pub positive : pos 0 <ℤ get_or ns (k + 1) (pos 0)

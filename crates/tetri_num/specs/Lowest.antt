-- Lowest terms.
use Rattle.std.specs.Prelude.{◌≡◌, unsigned_abs, ◌<ℤ◌, pos}
use lib.IntN.{ℤ}
use Rattle.tetri_algebra.specs.Gcd.{gcd_of}
use Rattle.tetri_algebra.specs.Range.{IsWithin}

-- a numerator and a denominator in lowest terms and in range, the denominator above 0
pub record IsLowest (num den : ℤ) : Type 0 where
  pub positive : pos 0 <ℤ den
  pub num_within : IsWithin num
  pub den_within : IsWithin den
  pub lowest : gcd_of (unsigned_abs num) (unsigned_abs den) ≡ 1

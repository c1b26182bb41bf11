-- Numbers of certificates as text.
use Rattle.std.proofs.Common.{◌≡◌, refl}
use Rattle.std.specs.Prelude.{ℕ, ◌^◌, ◌==◌, List, Bool, true, false, take, drop, Option, Some, None, if◌then◌else◌, option_map, bytes_eq, codes}
use Rattle.std.specs.Fmt.{signed_decimal}
use lib.IntN.{ℤ, pos, neg_ℤ}
use Rattle.tetri_io.specs.Codec.{Codec, both_in, image, numbers, pair}
use Rattle.tetri_io.specs.Numbers.{number_below}
use Rattle.tetri_algebra.specs.Range.{IsWithin}
use Rattle.tetri_num.specs.declared.fractions.Frac.{Frac}
use Rattle.tetri_cert.specs.NumbersLowest.{is_lowest, lowest_from}
use Rattle.tetri_base.specs.OptionSteps.{◌>>=◌}

-- the number of a row, a column or a step
abbrev pub small_number : List ℕ → Option ℕ
small_number word = number_below (2 ^ 32) word

-- the number below 0 whose digits stand behind a minus sign
unfoldable pub negative_number : List ℕ → Option ℤ
negative_number digits = number_below (2 ^ 127) digits >>= λ n. if n == 0 then None else Some (neg_ℤ (pos n))

-- The number from -(2^127 - 1) to 2^127 - 1 whose decimal digits these bytes are, without a leading zero, behind a minus sign where it is below 0.
unfoldable pub whole_number : List ℕ → Option ℤ
whole_number word = if bytes_eq (take 1 word) (codes "-") then negative_number (drop 1 word) else option_map pos (number_below (2 ^ 127) word)

abbrev pub small_numbers : Codec ℕ
small_numbers = numbers (2 ^ 32)

abbrev pub whole_numbers : Codec ℤ
whole_numbers = record { text = signed_decimal; read = whole_number; IsSuch = IsWithin }

-- ---- fractions
abbrev pub frac_by_test : (num den : ℤ) (t : Bool) → is_lowest num den ≡ t → Option Frac
frac_by_test num den true e = Some (record { num = num; den = den; lowest = lowest_from num den e })
frac_by_test num den false e = None

-- the fraction of these parts, where they are in lowest terms
unfoldable pub frac_of : ℤ → ℤ → Option Frac
frac_of num den = frac_by_test num den (is_lowest num den) refl

abbrev pub frac_of_parts : ℤ × ℤ → Option Frac
frac_of_parts p = frac_of p.0 p.1

-- fractions, whose parts stand around a slash
abbrev pub fracs : Codec Frac
fracs = image frac_of_parts (λ x. (x.num, x.den)) (λ x. Unit {0}) (pair 47 whole_numbers whole_numbers)

-- the fraction that the texts of its parts give
abbrev pub frac_of_halves : List ℕ × List ℕ → Option Frac
frac_of_halves h = both_in whole_numbers whole_numbers h >>= frac_of_parts

abbrev pub frac_in : List ℕ → Option Frac
frac_in word = fracs.read word

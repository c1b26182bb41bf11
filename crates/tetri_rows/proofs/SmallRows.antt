-- What holds of rows of whole numbers: their numbers are small, and no step of a pivot over small numbers leaves the range.
use Rattle.std.proofs.Common.{◌≡◌, ◌<◌, ◌^◌, sym, subst, arith, List, length, get_or, Some}
use Rattle.std.specs.Prelude.{All, unsigned_abs}
use Rattle.std.proofs.lemmas.List.{get_or-map, length-map}
use Rattle.tetri_algebra.specs.Integers.{abs_positive}
use lib.IntN.{ℤ, pos}
use Rattle.tetri_algebra.specs.Rational.{ℚ, fraction, whole_ℚ}
use Rattle.tetri_algebra.specs.RationalRing.{◌+ℚ◌, ◌*ℚ◌, neg_ℚ, num-whole_ℚ, den-whole_ℚ}
use Rattle.tetri_algebra.specs.RationalReciprocal.{◌/ℚ◌}
use Rattle.tetri_num.specs.Checked.{checked_sum, checked_product, checked_quotient}
use Rattle.tetri_rows.specs.Small.{IsSmall, IsShort, IsDenominator}
use Rattle.tetri_rows.specs.Rows.{meaning}
use Rattle.tetri_rows.proofs.Bounds as bounds
use Rattle.tetri_rows.proofs.Meanings.{short_fraction}

pub product_of_small : (p q : ℚ) → IsSmall p → IsSmall q → checked_product p q ≡ Some (p *ℚ q)
product_of_small = bounds.small_product

pub sum_of_small : (p q r : ℚ) → IsSmall p → IsSmall q → IsSmall r → checked_sum p (q *ℚ r) ≡ Some (p +ℚ q *ℚ r)
sum_of_small = bounds.small_sum

pub quotient_of_small : (p q : ℚ) → IsSmall p → IsSmall q → checked_quotient p q ≡ Some (p /ℚ q)
quotient_of_small = bounds.small_quotient

pub negative_of_small : (p : ℚ) → IsSmall p → IsSmall (neg_ℚ p)
negative_of_small = bounds.small_negative

pub small_whole : (n : ℤ) → IsShort n → IsSmall (whole_ℚ n)
small_whole n h = record { num = subst (λ z. unsigned_abs z < 2 ^ 42) (sym (num-whole_ℚ n)) (omega arith); den = subst (λ z. z < 2 ^ 42) (sym (den-whole_ℚ n)) (omega arith) }

-- the numbers of a row
pub small_numbers : (d : ℤ) (ns : List ℤ) → IsDenominator d → All IsShort ns → All IsSmall (meaning d ns)
small_numbers d ns h s k e l =
    let m : k < length ns = subst (λ z. k < z) (length-map ns (λ n. fraction n (unsigned_abs d))) l in
    subst IsSmall (sym (get_or-map (λ n. fraction n (unsigned_abs d)) ns k (pos 0) e m)) (short_fraction (get_or ns k (pos 0)) (unsigned_abs d) (abs_positive d h.positive) (s k (pos 0) m) h.short)

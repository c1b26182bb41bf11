-- Operations on rational numbers that refuse where a number that they form leaves the range.
use Rattle.std.specs.Prelude.{List, Option, Some, None, cond, pos}
use Rattle.std.specs.List.{list_all}
use lib.IntN.{ℤ}
use Rattle.tetri_algebra.specs.Rational.{ℚ}
use Rattle.tetri_algebra.specs.RationalRing.{◌+ℚ◌, ◌*ℚ◌, neg_ℚ}
use Rattle.tetri_algebra.specs.RationalReciprocal.{recip_ℚ}
use Rattle.tetri_algebra.specs.Range.{IsWithin, is_within}
use Rattle.tetri_num.specs.Forms.{sum_numbers, product_numbers}

-- the numerator and the denominator are in range, as those of each fraction are
pub record IsRepresentable (p : ℚ) : Type 0 where
  pub num : IsWithin p.num
  pub den : IsWithin (pos p.den)

-- the value, where all numbers that were formed are in range
abbrev pub value_within : List ℤ → ℚ → Option ℚ
value_within numbers p = cond (list_all is_within numbers) (Some p) None

unfoldable pub checked_sum : ℚ → ℚ → Option ℚ
checked_sum p q = value_within (sum_numbers p.num (pos p.den) q.num (pos q.den)) (p +ℚ q)

unfoldable pub checked_product : ℚ → ℚ → Option ℚ
checked_product p q = value_within (product_numbers p.num (pos p.den) q.num (pos q.den)) (p *ℚ q)

-- the sum with the negated right side
abbrev pub checked_difference : ℚ → ℚ → Option ℚ
checked_difference p q = checked_sum p (neg_ℚ q)

-- the product with the reciprocal
abbrev pub checked_quotient : ℚ → ℚ → Option ℚ
checked_quotient p q = checked_product p (recip_ℚ q)

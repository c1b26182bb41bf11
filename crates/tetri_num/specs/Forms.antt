-- What the operations on fractions form, from numerators and denominators: a / b and c / d.
use Rattle.std.specs.Prelude.{List, [], ◌∷◌, cond, unsigned_abs, int_div, ◌*ℤ◌, ◌+ℤ◌, pos}
use lib.IntN.{ℤ, neg_ℤ}
use lib.Signed.{lt_z}
use Rattle.tetri_algebra.specs.Gcd.{gcd_of}

-- the greatest common divisor of two whole numbers
abbrev pub common : ℤ → ℤ → ℤ
common a b = pos (gcd_of (unsigned_abs a) (unsigned_abs b))

-- ---- the sum: a * (d / g) + c * (b / g) over (b / g) * (d / h), with g = gcd b d and h = gcd of that total and g
abbrev pub sum_left : ℤ → ℤ → ℤ → ℤ → ℤ
sum_left a b c d = a *ℤ int_div d (common b d)

abbrev pub sum_right : ℤ → ℤ → ℤ → ℤ → ℤ
sum_right a b c d = c *ℤ int_div b (common b d)

abbrev pub sum_total : ℤ → ℤ → ℤ → ℤ → ℤ
sum_total a b c d = sum_left a b c d +ℤ sum_right a b c d

-- what the total has in common with g
abbrev pub sum_common : ℤ → ℤ → ℤ → ℤ → ℤ
sum_common a b c d = common (sum_total a b c d) (common b d)

abbrev pub sum_num : ℤ → ℤ → ℤ → ℤ → ℤ
sum_num a b c d = int_div (sum_total a b c d) (sum_common a b c d)

abbrev pub sum_den : ℤ → ℤ → ℤ → ℤ → ℤ
sum_den a b c d = int_div b (common b d) *ℤ int_div d (sum_common a b c d)

-- the numbers that a sum forms, in order
abbrev pub sum_numbers : ℤ → ℤ → ℤ → ℤ → List ℤ
sum_numbers a b c d = sum_left a b c d ∷ sum_right a b c d ∷ sum_total a b c d ∷ sum_den a b c d ∷ []

-- ---- the product, after crosswise cancelling
abbrev pub product_num : ℤ → ℤ → ℤ → ℤ → ℤ
product_num a b c d = int_div a (common a d) *ℤ int_div c (common c b)

abbrev pub product_den : ℤ → ℤ → ℤ → ℤ → ℤ
product_den a b c d = int_div b (common c b) *ℤ int_div d (common a d)

-- the numbers that a product forms, in order
abbrev pub product_numbers : ℤ → ℤ → ℤ → ℤ → List ℤ
product_numbers a b c d = product_num a b c d ∷ product_den a b c d ∷ []

-- ---- the reciprocal of c / d, which is not 0: the sign moves to the numerator
abbrev pub recip_num : ℤ → ℤ → ℤ
recip_num c d = cond (lt_z (pos 0) c) d (neg_ℤ d)

abbrev pub recip_den : ℤ → ℤ
recip_den c = pos (unsigned_abs c)

-- What a sum and a product form where a side is a whole number, 0 or 1.
use Rattle.std.proofs.Common.{◌≡◌, ℕ, ◌/◌, ◌<◌, ◌≤◌, sym, ap, ◌∙◌, subst, arith, lit<}
use Rattle.std.specs.Prelude.{unsigned_abs, int_div, ◌<ℤ◌}
use Rattle.std.proofs.Math.Nat.{one-dvd, div-le_self, div_self}
use Rattle.std.proofs.lemmas.Int.{ints, to_z-of_z, fits_signed_from_abs}
use mir.Val.{to_z, of_z}
use mir.Syntax.{w128}
use lib.IntN.{ℤ, pos, negsuc, ◌+ℤ◌, ◌*ℤ◌}
use Rattle.tetri_algebra.specs.Gcd.{gcd_of}
use Rattle.tetri_algebra.specs.Coprime.{gcd_of-one, gcd_of-zero, gcd_of_comm}
use Rattle.tetri_algebra.specs.Integers.{*ℤ-one, one-*ℤ, abs_of_positive}
use Rattle.tetri_algebra.specs.Quotients.{int_div-mul}
use Rattle.tetri_algebra.specs.Range.{IsWithin, AreWithin}
use Rattle.tetri_num.specs.Lowest.{IsLowest}
use Rattle.tetri_num.specs.Forms.{common, sum_left, sum_right, sum_total, sum_num, sum_den, sum_numbers, product_num, product_den, product_numbers}
use Rattle.tetri_num.proofs.Common.{common-one, quotient_within, within_along}

pub one-common : (a : ℤ) → common (pos 1) a ≡ pos 1
one-common a = ap pos (gcd_of_comm 1 (unsigned_abs a) ∙ gcd_of-one (unsigned_abs a))

div-one : (b : ℤ) → int_div b (pos 1) ≡ b
div-one b = sym (*ℤ-one (int_div b (pos 1))) ∙ int_div-mul b 1 (one-dvd (unsigned_abs b))

zero_times : (x : ℤ) → pos 0 *ℤ x ≡ pos 0
zero_times x = omega (arith, ints)

times_zero : (x : ℤ) → x *ℤ pos 0 ≡ pos 0
times_zero x = omega (arith, ints)

plus_zero : (a : ℤ) → a +ℤ pos 0 ≡ a
plus_zero a = omega (arith, ints)

zero_plus : (a : ℤ) → pos 0 +ℤ a ≡ a
zero_plus a = omega (arith, ints)

zero_div : (k : ℕ) → int_div (pos 0) (pos k) ≡ pos 0
zero_div k = ap pos (le_zero (0 / k) (div-le_self 0 k))
  where
    le_zero : (m : ℕ) → m ≤ 0 → m ≡ 0
    le_zero m h = omega arith

zero_within : IsWithin (pos 0)
zero_within = lit< tt

one_within : IsWithin (pos 1)
one_within = lit< tt

-- the numerator and the denominator of a sum, from its total and from g where that is 1
sum_num_at : (a b c d t : ℤ) → common b d ≡ pos 1 → sum_total a b c d ≡ t → sum_num a b c d ≡ t
sum_num_at a b c d t o e =
    ap (λ z. int_div (sum_total a b c d) (common (sum_total a b c d) z)) o
    ∙ ap (λ z. int_div (sum_total a b c d) z) (common-one (sum_total a b c d)) ∙ div-one (sum_total a b c d) ∙ e

sum_den_at : (a b c d : ℤ) → common b d ≡ pos 1 → sum_den a b c d ≡ b *ℤ d
sum_den_at a b c d o =
    ap (λ z. int_div b z *ℤ int_div d (common (sum_total a b c d) z)) o
    ∙ ap (λ z. int_div b (pos 1) *ℤ int_div d z) (common-one (sum_total a b c d))
    ∙ ap (λ z. z *ℤ int_div d (pos 1)) (div-one b) ∙ ap (λ z. b *ℤ z) (div-one d)

sum_left_at : (a b c d : ℤ) → common b d ≡ pos 1 → sum_left a b c d ≡ a *ℤ d
sum_left_at a b c d o = ap (λ z. a *ℤ int_div d z) o ∙ ap (λ z. a *ℤ z) (div-one d)

sum_right_at : (a b c d : ℤ) → common b d ≡ pos 1 → sum_right a b c d ≡ c *ℤ b
sum_right_at a b c d o = ap (λ z. c *ℤ int_div b z) o ∙ ap (λ z. c *ℤ z) (div-one b)

sum_total_at : (a b c d l r : ℤ) → common b d ≡ pos 1 → a *ℤ d ≡ l → c *ℤ b ≡ r → sum_total a b c d ≡ l +ℤ r
sum_total_at a b c d l r o e f = ap (λ z. z +ℤ sum_right a b c d) (sum_left_at a b c d o ∙ e) ∙ ap (λ z. l +ℤ z) (sum_right_at a b c d o ∙ f)

-- ---- the sum of two whole numbers
pub whole_sum_num : (a c : ℤ) → sum_num a (pos 1) c (pos 1) ≡ a +ℤ c
whole_sum_num a c = sum_num_at a (pos 1) c (pos 1) (a +ℤ c) (common-one (pos 1)) (sum_total_at a (pos 1) c (pos 1) a c (common-one (pos 1)) (*ℤ-one a) (*ℤ-one c))

pub whole_sum_den : (a c : ℤ) → sum_den a (pos 1) c (pos 1) ≡ pos 1
whole_sum_den a c = sum_den_at a (pos 1) c (pos 1) (common-one (pos 1))

pub whole_sum_within : (a c : ℤ) → IsWithin a → IsWithin c → IsWithin (a +ℤ c) → AreWithin (sum_numbers a (pos 1) c (pos 1))
whole_sum_within a c h k l =
    let o = common-one (pos 1) in (
      within_along _ a (sum_left_at a (pos 1) c (pos 1) o ∙ *ℤ-one a) h,
      (
        within_along _ c (sum_right_at a (pos 1) c (pos 1) o ∙ *ℤ-one c) k,
        (within_along _ (a +ℤ c) (sum_total_at a (pos 1) c (pos 1) a c o (*ℤ-one a) (*ℤ-one c)) l, (within_along _ (pos 1) (whole_sum_den a c) one_within, tt)),
      ),
    )

pub whole_sum_total : (a c : ℤ) → AreWithin (sum_numbers a (pos 1) c (pos 1)) → IsWithin (a +ℤ c)
whole_sum_total a c h = within_along (a +ℤ c) _ (sym (sum_total_at a (pos 1) c (pos 1) a c (common-one (pos 1)) (*ℤ-one a) (*ℤ-one c))) h.1.1.0

-- ---- sums with 0
pub sum_zero_right_num : (a b : ℤ) → sum_num a b (pos 0) (pos 1) ≡ a
sum_zero_right_num a b = sum_num_at a b (pos 0) (pos 1) a (common-one b) (sum_total_at a b (pos 0) (pos 1) a (pos 0) (common-one b) (*ℤ-one a) (zero_times b) ∙ plus_zero a)

pub sum_zero_right_den : (a b : ℤ) → sum_den a b (pos 0) (pos 1) ≡ b
sum_zero_right_den a b = sum_den_at a b (pos 0) (pos 1) (common-one b) ∙ *ℤ-one b

pub sum_zero_right : (a b : ℤ) → IsWithin a → IsWithin b → AreWithin (sum_numbers a b (pos 0) (pos 1))
sum_zero_right a b h k =
    let o = common-one b in (
      within_along _ a (sum_left_at a b (pos 0) (pos 1) o ∙ *ℤ-one a) h,
      (
        within_along _ (pos 0) (sum_right_at a b (pos 0) (pos 1) o ∙ zero_times b) zero_within,
        (within_along _ a (sum_total_at a b (pos 0) (pos 1) a (pos 0) o (*ℤ-one a) (zero_times b) ∙ plus_zero a) h, (within_along _ b (sum_zero_right_den a b) k, tt)),
      ),
    )

pub sum_zero_left_num : (c d : ℤ) → sum_num (pos 0) (pos 1) c d ≡ c
sum_zero_left_num c d = sum_num_at (pos 0) (pos 1) c d c (one-common d) (sum_total_at (pos 0) (pos 1) c d (pos 0) c (one-common d) (zero_times d) (*ℤ-one c) ∙ zero_plus c)

pub sum_zero_left_den : (c d : ℤ) → sum_den (pos 0) (pos 1) c d ≡ d
sum_zero_left_den c d = sum_den_at (pos 0) (pos 1) c d (one-common d) ∙ one-*ℤ d

pub sum_zero_left : (c d : ℤ) → IsWithin c → IsWithin d → AreWithin (sum_numbers (pos 0) (pos 1) c d)
sum_zero_left c d h k =
    let o = one-common d in (
      within_along _ (pos 0) (sum_left_at (pos 0) (pos 1) c d o ∙ zero_times d) zero_within,
      (
        within_along _ c (sum_right_at (pos 0) (pos 1) c d o ∙ *ℤ-one c) h,
        (within_along _ c (sum_total_at (pos 0) (pos 1) c d (pos 0) c o (zero_times d) (*ℤ-one c) ∙ zero_plus c) h, (within_along _ d (sum_zero_left_den c d) k, tt)),
      ),
    )

-- ---- the product of two whole numbers
pub whole_product_num : (a c : ℤ) → product_num a (pos 1) c (pos 1) ≡ a *ℤ c
whole_product_num a c =
    ap (λ z. int_div a z *ℤ int_div c (common c (pos 1))) (common-one a) ∙ ap (λ z. int_div a (pos 1) *ℤ int_div c z) (common-one c)
    ∙ ap (λ z. z *ℤ int_div c (pos 1)) (div-one a) ∙ ap (λ z. a *ℤ z) (div-one c)

pub whole_product_den : (a c : ℤ) → product_den a (pos 1) c (pos 1) ≡ pos 1
whole_product_den a c = ap (λ z. int_div (pos 1) z *ℤ int_div (pos 1) (common a (pos 1))) (common-one c) ∙ ap (λ z. pos 1 *ℤ int_div (pos 1) z) (common-one a)

pub whole_product_within : (a c : ℤ) → IsWithin (a *ℤ c) → AreWithin (product_numbers a (pos 1) c (pos 1))
whole_product_within a c h = (within_along _ (a *ℤ c) (whole_product_num a c) h, (within_along _ (pos 1) (whole_product_den a c) one_within, tt))

pub whole_product_num_within : (a c : ℤ) → AreWithin (product_numbers a (pos 1) c (pos 1)) → IsWithin (a *ℤ c)
whole_product_num_within a c h = within_along (a *ℤ c) _ (sym (whole_product_num a c)) h.0

-- ---- products with 0
div_by_own : (d : ℤ) → pos 0 <ℤ d → int_div d (common (pos 0) d) ≡ pos 1
div_by_own d h =
    ap (λ n. int_div d (pos n)) (gcd_of_comm 0 (unsigned_abs d) ∙ gcd_of-zero (unsigned_abs d)) ∙ own d h
  where
    own : (d : ℤ) → pos 0 <ℤ d → int_div d (pos (unsigned_abs d)) ≡ pos 1
    own (pos n) h = let l : 0 < n = omega (arith, ints) in ap pos (div_self l)
    own (negsuc n) h = absurd (omega (arith, ints))

pub product_zero_right_num : (a b : ℤ) → product_num a b (pos 0) (pos 1) ≡ pos 0
product_zero_right_num a b = ap (λ z. int_div a (common a (pos 1)) *ℤ z) (zero_div (gcd_of 0 (unsigned_abs b))) ∙ times_zero (int_div a (common a (pos 1)))

pub product_zero_right_den : (a b : ℤ) → pos 0 <ℤ b → product_den a b (pos 0) (pos 1) ≡ pos 1
product_zero_right_den a b h = ap (λ z. z *ℤ int_div (pos 1) (common a (pos 1))) (div_by_own b h) ∙ ap (λ z. pos 1 *ℤ int_div (pos 1) z) (common-one a)

pub product_zero_right : (a b : ℤ) → pos 0 <ℤ b → AreWithin (product_numbers a b (pos 0) (pos 1))
product_zero_right a b h = (within_along _ (pos 0) (product_zero_right_num a b) zero_within, (within_along _ (pos 1) (product_zero_right_den a b h) one_within, tt))

pub product_zero_left_num : (c d : ℤ) → product_num (pos 0) (pos 1) c d ≡ pos 0
product_zero_left_num c d = ap (λ z. z *ℤ int_div c (common c (pos 1))) (zero_div (gcd_of 0 (unsigned_abs d))) ∙ zero_times (int_div c (common c (pos 1)))

pub product_zero_left_den : (c d : ℤ) → pos 0 <ℤ d → product_den (pos 0) (pos 1) c d ≡ pos 1
product_zero_left_den c d h = ap (λ z. int_div (pos 1) (common c (pos 1)) *ℤ z) (div_by_own d h) ∙ ap (λ z. int_div (pos 1) z *ℤ pos 1) (common-one c)

pub product_zero_left : (c d : ℤ) → pos 0 <ℤ d → AreWithin (product_numbers (pos 0) (pos 1) c d)
product_zero_left c d h = (within_along _ (pos 0) (product_zero_left_num c d) zero_within, (within_along _ (pos 1) (product_zero_left_den c d h) one_within, tt))

-- ---- products with 1
pub product_one_right : (a b : ℤ) → IsWithin a → IsWithin b → AreWithin (product_numbers a b (pos 1) (pos 1))
product_one_right a b h k =
    let num : product_num a b (pos 1) (pos 1) ≡ int_div a (common a (pos 1)) =
    ap (λ z. int_div a (common a (pos 1)) *ℤ int_div (pos 1) z) (one-common b) ∙ *ℤ-one (int_div a (common a (pos 1))) in
    let den : product_den a b (pos 1) (pos 1) ≡ int_div b (common (pos 1) b) =
    ap (λ z. int_div b (common (pos 1) b) *ℤ int_div (pos 1) z) (common-one a) ∙ *ℤ-one (int_div b (common (pos 1) b)) in
    (within_along _ _ num (quotient_within a _ h), (within_along _ _ den (quotient_within b _ k), tt))

pub product_one_left : (c d : ℤ) → IsWithin c → IsWithin d → AreWithin (product_numbers (pos 1) (pos 1) c d)
product_one_left c d h k =
    let num : product_num (pos 1) (pos 1) c d ≡ int_div c (common c (pos 1)) =
    ap (λ z. int_div (pos 1) z *ℤ int_div c (common c (pos 1))) (one-common d) ∙ one-*ℤ (int_div c (common c (pos 1))) in
    let den : product_den (pos 1) (pos 1) c d ≡ int_div d (common (pos 1) d) =
    ap (λ z. int_div (pos 1) z *ℤ int_div d (common (pos 1) d)) (common-one c) ∙ one-*ℤ (int_div d (common (pos 1) d)) in
    (within_along _ _ num (quotient_within c _ h), (within_along _ _ den (quotient_within d _ k), tt))

-- ---- 0 in lowest terms
pub zero_den : (c d : ℤ) → c ≡ pos 0 → IsLowest c d → d ≡ pos 1
zero_den c d e l =
    sym (abs_of_positive d l.positive)
    ∙ ap pos (sym (gcd_of_comm 0 (unsigned_abs d) ∙ gcd_of-zero (unsigned_abs d)) ∙ ap (λ z. gcd_of (unsigned_abs z) (unsigned_abs d)) (sym e) ∙ l.lowest)

-- a fact of a whole side, at the numbers that are known to be such
pub at_side : (f : ℤ → ℤ → Type 0) (c d n m : ℤ) → c ≡ n → d ≡ m → f n m → f c d
at_side f c d n m e g h = subst (λ z. f z d) (sym e) (subst (λ z. f n z) (sym g) h)

-- ---- the same at numbers that are known to be such
pub wholes_sum_num : (a b c d n : ℤ) → b ≡ pos 1 → d ≡ pos 1 → n ≡ a +ℤ c → n ≡ sum_num a b c d
wholes_sum_num a b c d n p q e = rw (p, q) (e ∙ sym (whole_sum_num a c))

pub wholes_sum_den : (a b c d : ℤ) → b ≡ pos 1 → d ≡ pos 1 → pos 1 ≡ sum_den a b c d
wholes_sum_den a b c d p q = rw (p, q) (sym (whole_sum_den a c))

pub wholes_sum_within : (a b c d : ℤ) → b ≡ pos 1 → d ≡ pos 1 → IsWithin a → IsWithin c → IsWithin (a +ℤ c) → AreWithin (sum_numbers a b c d)
wholes_sum_within a b c d p q h k l = at_side (λ x y. AreWithin (sum_numbers a x c y)) b d (pos 1) (pos 1) p q (whole_sum_within a c h k l)

pub wholes_sum_total : (a b c d : ℤ) → b ≡ pos 1 → d ≡ pos 1 → AreWithin (sum_numbers a b c d) → IsWithin (a +ℤ c)
wholes_sum_total a b c d p q h = whole_sum_total a c (at_side (λ x y. AreWithin (sum_numbers a x c y)) (pos 1) (pos 1) b d (sym p) (sym q) h)

pub wholes_product_num : (a b c d n : ℤ) → b ≡ pos 1 → d ≡ pos 1 → n ≡ a *ℤ c → n ≡ product_num a b c d
wholes_product_num a b c d n p q e = rw (p, q) (e ∙ sym (whole_product_num a c))

pub wholes_product_den : (a b c d : ℤ) → b ≡ pos 1 → d ≡ pos 1 → pos 1 ≡ product_den a b c d
wholes_product_den a b c d p q = rw (p, q) (sym (whole_product_den a c))

pub wholes_product_within : (a b c d : ℤ) → b ≡ pos 1 → d ≡ pos 1 → IsWithin (a *ℤ c) → AreWithin (product_numbers a b c d)
wholes_product_within a b c d p q h = at_side (λ x y. AreWithin (product_numbers a x c y)) b d (pos 1) (pos 1) p q (whole_product_within a c h)

pub wholes_product_num_within : (a b c d : ℤ) → b ≡ pos 1 → d ≡ pos 1 → AreWithin (product_numbers a b c d) → IsWithin (a *ℤ c)
wholes_product_num_within a b c d p q h = whole_product_num_within a c (at_side (λ x y. AreWithin (product_numbers a x c y)) (pos 1) (pos 1) b d (sym p) (sym q) h)

-- a / b + 0 and 0 + c / d, with 0 in lowest terms
pub sum_right_num : (a b c d : ℤ) → c ≡ pos 0 → IsLowest c d → a ≡ sum_num a b c d
sum_right_num a b c d e l = at_side (λ x y. a ≡ sum_num a b x y) c d (pos 0) (pos 1) e (zero_den c d e l) (sym (sum_zero_right_num a b))

pub sum_right_den : (a b c d : ℤ) → c ≡ pos 0 → IsLowest c d → b ≡ sum_den a b c d
sum_right_den a b c d e l = at_side (λ x y. b ≡ sum_den a b x y) c d (pos 0) (pos 1) e (zero_den c d e l) (sym (sum_zero_right_den a b))

pub sum_right_within : (a b c d : ℤ) → c ≡ pos 0 → IsLowest a b → IsLowest c d → AreWithin (sum_numbers a b c d)
sum_right_within a b c d e k l = at_side (λ x y. AreWithin (sum_numbers a b x y)) c d (pos 0) (pos 1) e (zero_den c d e l) (sum_zero_right a b k.num_within k.den_within)

pub sum_left_num : (a b c d : ℤ) → a ≡ pos 0 → IsLowest a b → c ≡ sum_num a b c d
sum_left_num a b c d e l = at_side (λ x y. c ≡ sum_num x y c d) a b (pos 0) (pos 1) e (zero_den a b e l) (sym (sum_zero_left_num c d))

pub sum_left_den : (a b c d : ℤ) → a ≡ pos 0 → IsLowest a b → d ≡ sum_den a b c d
sum_left_den a b c d e l = at_side (λ x y. d ≡ sum_den x y c d) a b (pos 0) (pos 1) e (zero_den a b e l) (sym (sum_zero_left_den c d))

pub sum_left_within : (a b c d : ℤ) → a ≡ pos 0 → IsLowest a b → IsLowest c d → AreWithin (sum_numbers a b c d)
sum_left_within a b c d e l k = at_side (λ x y. AreWithin (sum_numbers x y c d)) a b (pos 0) (pos 1) e (zero_den a b e l) (sum_zero_left c d k.num_within k.den_within)

-- (a / b) * 0 and 0 * (c / d), with 0 in lowest terms
pub product_right_num : (a b c d : ℤ) → c ≡ pos 0 → IsLowest c d → c ≡ product_num a b c d
product_right_num a b c d e l = e ∙ at_side (λ x y. pos 0 ≡ product_num a b x y) c d (pos 0) (pos 1) e (zero_den c d e l) (sym (product_zero_right_num a b))

pub product_right_den : (a b c d : ℤ) → c ≡ pos 0 → IsLowest a b → IsLowest c d → d ≡ product_den a b c d
product_right_den a b c d e k l = zero_den c d e l ∙ at_side (λ x y. pos 1 ≡ product_den a b x y) c d (pos 0) (pos 1) e (zero_den c d e l) (sym (product_zero_right_den a b k.positive))

pub product_right_within : (a b c d : ℤ) → c ≡ pos 0 → IsLowest a b → IsLowest c d → AreWithin (product_numbers a b c d)
product_right_within a b c d e k l = at_side (λ x y. AreWithin (product_numbers a b x y)) c d (pos 0) (pos 1) e (zero_den c d e l) (product_zero_right a b k.positive)

pub product_left_num : (a b c d : ℤ) → a ≡ pos 0 → IsLowest a b → a ≡ product_num a b c d
product_left_num a b c d e l = e ∙ at_side (λ x y. pos 0 ≡ product_num x y c d) a b (pos 0) (pos 1) e (zero_den a b e l) (sym (product_zero_left_num c d))

pub product_left_den : (a b c d : ℤ) → a ≡ pos 0 → IsLowest a b → IsLowest c d → b ≡ product_den a b c d
product_left_den a b c d e l k = zero_den a b e l ∙ at_side (λ x y. pos 1 ≡ product_den x y c d) a b (pos 0) (pos 1) e (zero_den a b e l) (sym (product_zero_left_den c d k.positive))

pub product_left_within : (a b c d : ℤ) → a ≡ pos 0 → IsLowest a b → IsLowest c d → AreWithin (product_numbers a b c d)
product_left_within a b c d e l k = at_side (λ x y. AreWithin (product_numbers x y c d)) a b (pos 0) (pos 1) e (zero_den a b e l) (product_zero_left c d k.positive)

-- what the code's test of a number's bits says
pub number_is : (z : ℤ) (n : ℕ) → IsWithin z → of_z w128 z ≡ n → z ≡ to_z w128 n
number_is z n h e = sym (to_z-of_z w128 z (fits_signed_from_abs w128 z h)) ∙ ap (λ k. to_z w128 k) e

pub same_bits : (x y : ℤ) → IsWithin x → IsWithin y → of_z w128 x ≡ of_z w128 y → x ≡ y
same_bits x y h k e = number_is x (of_z w128 y) h e ∙ to_z-of_z w128 y (fits_signed_from_abs w128 y k)

-- Numbers of small fractions: no step of a pivot leaves the range.
use Rattle.std.proofs.Common.{◌≡◌, ℕ, ◌+◌, ◌*◌, ◌/◌, ◌^◌, ◌<◌, ◌≤◌, sym, ap, ◌∙◌, subst, arith, Some, [], ◌∷◌}
use Prim.Native.Nat.{zero, suc, ◌∣◌}
use Rattle.std.specs.Prelude.{unsigned_abs, int_div, ◌≤ℤ◌}
use Rattle.std.proofs.Math.Nat.{mul-le-mul_left, mul_comm, div-le_self, dvd-mul_left, div-mul_cancel}
use Rattle.std.proofs.lemmas.Int.{ints, by_lt_z, unsigned_abs-mul}
use lib.IntN.{ℤ, pos, ◌+ℤ◌, ◌*ℤ◌, neg_ℤ}
use Rattle.tetri_algebra.specs.Gcd.{gcd_of}
use Rattle.tetri_algebra.specs.Coprime.{dvd_from_coprime, gcd_of_comm, mul_cancel_left}
use Rattle.tetri_algebra.specs.Integers.{abs-neg_ℤ}
use Rattle.tetri_algebra.specs.Quotients.{abs-int_div}
use Rattle.tetri_algebra.specs.Rational.{ℚ, fraction, fraction-cross}
use Rattle.tetri_algebra.specs.RationalRing.{◌+ℚ◌, ◌*ℚ◌, neg_ℚ, product_of_parts, positive_product, num-whole_ℚ, den-whole_ℚ, num-neg_ℚ, den-neg_ℚ}
use Rattle.tetri_algebra.specs.RationalReciprocal.{◌/ℚ◌, recip_ℚ, recip_positive, recip_negative, recip_zero}
use Rattle.tetri_algebra.specs.Range.{AreWithin}
use Rattle.tetri_num.specs.Forms.{sum_numbers, sum_left, sum_right, sum_total, sum_den, product_numbers, product_num, product_den}
use Rattle.tetri_num.specs.Checked.{checked_sum, checked_product, checked_quotient}
use Rattle.tetri_num.proofs.FractionLaws.{value_within_some}
use Rattle.tetri_rows.specs.Small.{IsSmall}

-- ---- natural numbers
product_le : (m n a b : ℕ) → m ≤ a → n ≤ b → m * n ≤ a * b
product_le m n a b h k =
    let p : m * n ≤ m * b = mul-le-mul_left m k in
    let q : b * m ≤ b * a = mul-le-mul_left b h in
    let e = mul_comm b m in
    let f = mul_comm b a in
    omega arith

-- ---- a fraction is no larger than what it was made of
parts_le : (p n d e m : ℕ) → 0 < d → e * m ≡ d → p * m ≡ n → (p ≤ n) × (e ≤ d)
parts_le p n d e zero h f g = absurd (omega arith)
parts_le p n d e (suc m) h f g = (omega arith, omega arith)

cross_le : (p n d e : ℕ) → 0 < d → 0 < e → gcd_of p e ≡ 1 → p * d ≡ n * e → (p ≤ n) × (e ≤ d)
cross_le p n d e h k l c =
    let v : e ∣ d = dvd_from_coprime e d p (gcd_of_comm e p ∙ l) (subst (λ z. e ∣ z) (sym c ∙ mul_comm p d) (dvd-mul_left e n)) in
    let q = d / e in
    let f : e * q ≡ d = mul_comm e q ∙ div-mul_cancel e v in
    let g : e * (p * q) ≡ e * n = regroup e p q ∙ ap (λ z. p * z) f ∙ c ∙ mul_comm n e in
    parts_le p n d e q h f (mul_cancel_left e (p * q) n k g)
  where
    regroup : (e p q : ℕ) → e * (p * q) ≡ p * (e * q)
    regroup e p q = omega arith

pub fraction_le : (n : ℤ) (d : ℕ) → 0 < d → (unsigned_abs (fraction n d).num ≤ unsigned_abs n) × ((fraction n d).den ≤ d)
fraction_le n d h =
    let p = fraction n d in
    cross_le (unsigned_abs p.num) (unsigned_abs n) d p.den h p.positive p.lowest
    (sym (unsigned_abs-mul p.num (pos d)) ∙ ap unsigned_abs (fraction-cross n d h) ∙ unsigned_abs-mul n (pos p.den))

pub small_fraction : (n : ℤ) (d : ℕ) → 0 < d → unsigned_abs n < 2 ^ 42 → d < 2 ^ 42 → IsSmall (fraction n d)
small_fraction n d h k l = let e = fraction_le n d h in record { num = omega (arith, e.0, e.1); den = omega (arith, e.0, e.1) }

-- ---- the numbers that are formed
quotient_le : (a : ℤ) (k : ℕ) → unsigned_abs (int_div a (pos k)) ≤ unsigned_abs a
quotient_le a k = rw (abs-int_div a k) (div-le_self (unsigned_abs a) k)

abs_product_le : (x y : ℤ) (a b : ℕ) → unsigned_abs x ≤ a → unsigned_abs y ≤ b → unsigned_abs (x *ℤ y) ≤ a * b
abs_product_le x y a b h k = rw (unsigned_abs-mul x y) (product_le (unsigned_abs x) (unsigned_abs y) a b h k)

abs_sum_le : (x y : ℤ) → unsigned_abs (x +ℤ y) ≤ unsigned_abs x + unsigned_abs y
abs_sum_le x y = omega (arith, ints)

-- the greatest sizes
below_two : (m n : ℕ) → m < 2 ^ 42 → n < 2 ^ 42 → m * n < 2 ^ 84
below_two m n h k =
    let a : m + 1 ≤ 2 ^ 42 = omega arith in
    let b : n + 1 ≤ 2 ^ 42 = omega arith in
    let p = product_le (m + 1) (n + 1) (2 ^ 42) (2 ^ 42) a b in
    omega (arith, p)

below_three : (m n : ℕ) → m < 2 ^ 42 → n < 2 ^ 84 → m * n < 2 ^ 126
below_three m n h k =
    let a : m + 1 ≤ 2 ^ 42 = omega arith in
    let b : n + 1 ≤ 2 ^ 84 = omega arith in
    let p = product_le (m + 1) (n + 1) (2 ^ 42) (2 ^ 84) a b in
    omega (arith, p)

pub small_product_numbers : (a b c d : ℤ) → unsigned_abs a < 2 ^ 42 → unsigned_abs b < 2 ^ 42 → unsigned_abs c < 2 ^ 42 → unsigned_abs d < 2 ^ 42 → AreWithin (product_numbers a b c d)
small_product_numbers a b c d ha hb hc hd =
    let g = gcd_of (unsigned_abs a) (unsigned_abs d) in
    let h = gcd_of (unsigned_abs c) (unsigned_abs b) in
    let n : unsigned_abs (product_num a b c d) ≤ unsigned_abs a * unsigned_abs c = abs_product_le (int_div a (pos g)) (int_div c (pos h)) (unsigned_abs a) (unsigned_abs c) (quotient_le a g) (quotient_le c h) in
    let m : unsigned_abs (product_den a b c d) ≤ unsigned_abs b * unsigned_abs d = abs_product_le (int_div b (pos h)) (int_div d (pos g)) (unsigned_abs b) (unsigned_abs d) (quotient_le b h) (quotient_le d g) in
    let x = below_two (unsigned_abs a) (unsigned_abs c) ha hc in
    let y = below_two (unsigned_abs b) (unsigned_abs d) hb hd in
    within (product_num a b c d) (product_den a b c d) _ _ n m x y
  where
    within : (n m : ℤ) (x y : ℕ) → unsigned_abs n ≤ x → unsigned_abs m ≤ y → x < 2 ^ 84 → y < 2 ^ 84 → AreWithin (n ∷ m ∷ [])
    within n m x y h k a b = (omega arith, (omega arith, tt))

pub small_sum_numbers : (a b c d : ℤ) → unsigned_abs a < 2 ^ 42 → unsigned_abs b < 2 ^ 42 → unsigned_abs c < 2 ^ 84 → unsigned_abs d < 2 ^ 84 → AreWithin (sum_numbers a b c d)
small_sum_numbers a b c d ha hb hc hd =
    let g = gcd_of (unsigned_abs b) (unsigned_abs d) in
    let h = gcd_of (unsigned_abs (sum_total a b c d)) g in
    let l : unsigned_abs (sum_left a b c d) ≤ unsigned_abs a * unsigned_abs d = abs_product_le a (int_div d (pos g)) _ _ (omega arith) (quotient_le d g) in
    let r : unsigned_abs (sum_right a b c d) ≤ unsigned_abs c * unsigned_abs b = abs_product_le c (int_div b (pos g)) _ _ (omega arith) (quotient_le b g) in
    let m : unsigned_abs (sum_den a b c d) ≤ unsigned_abs b * unsigned_abs d = abs_product_le (int_div b (pos g)) (int_div d (pos h)) _ _ (quotient_le b g) (quotient_le d h) in
    let t : unsigned_abs (sum_total a b c d) ≤ unsigned_abs (sum_left a b c d) + unsigned_abs (sum_right a b c d) = abs_sum_le (sum_left a b c d) (sum_right a b c d) in
    let x = below_three (unsigned_abs a) (unsigned_abs d) ha hd in
    let y = below_three (unsigned_abs b) (unsigned_abs c) hb hc in
    let z = below_three (unsigned_abs b) (unsigned_abs d) hb hd in
    let s = mul_comm (unsigned_abs c) (unsigned_abs b) in
    within (sum_left a b c d) (sum_right a b c d) (sum_total a b c d) (sum_den a b c d) _ _ _ l r m t x _ y s z
  where
    within : (l r t m : ℤ) (x y z : ℕ) → unsigned_abs l ≤ x → unsigned_abs r ≤ y → unsigned_abs m ≤ z → unsigned_abs t ≤ unsigned_abs l + unsigned_abs r → x < 2 ^ 126 → (w : ℕ) → w < 2 ^ 126 → y ≡ w → z < 2 ^ 126 → AreWithin (l ∷ r ∷ t ∷ m ∷ [])
    within l r t m x y z a b c d e w f g h = (omega arith, (omega arith, (omega arith, (omega arith, tt))))

-- ---- the law: a product, a sum with a product, and a quotient of small numbers are the plain values
pub small_product : (p q : ℚ) → IsSmall p → IsSmall q → checked_product p q ≡ Some (p *ℚ q)
unfolding checked_product
small_product p q h k = value_within_some (product_numbers p.num (pos p.den) q.num (pos q.den)) (p *ℚ q) (small_product_numbers p.num (pos p.den) q.num (pos q.den) h.num h.den k.num k.den)

pub product_parts_le : (p q : ℚ) → IsSmall p → IsSmall q → (unsigned_abs (p *ℚ q).num < 2 ^ 84) × ((p *ℚ q).den < 2 ^ 84)
product_parts_le p q h k =
    let e = fraction_le (p.num *ℤ q.num) (p.den * q.den) (positive_product _ _ p.positive q.positive) in
    let n = below_two (unsigned_abs p.num) (unsigned_abs q.num) h.num k.num in
    let m = below_two p.den q.den h.den k.den in
    let a = unsigned_abs-mul p.num q.num in
    rw (product_of_parts p q) (omega (arith, e.0, n, a), omega (arith, e.1, m))

pub small_sum : (p q r : ℚ) → IsSmall p → IsSmall q → IsSmall r → checked_sum p (q *ℚ r) ≡ Some (p +ℚ q *ℚ r)
unfolding checked_sum
small_sum p q r h k l =
    let b = product_parts_le q r k l in
    value_within_some (sum_numbers p.num (pos p.den) (q *ℚ r).num (pos (q *ℚ r).den)) (p +ℚ q *ℚ r) (small_sum_numbers p.num (pos p.den) (q *ℚ r).num (pos (q *ℚ r).den) h.num h.den b.0 b.1)

pub small_reciprocal : (p : ℚ) → IsSmall p → IsSmall (recip_ℚ p)
small_reciprocal p h =
    by_lt_z (pos 0) p.num
    (λ l. let e = recip_positive p l in sized (recip_ℚ p) (pos p.den) p.num e.0 e.1 h.den h.num)
    (λ l. by_lt_z p.num (pos 0)
    (λ m. let e = recip_negative p m in sized (recip_ℚ p) (neg_ℤ (pos p.den)) (neg_ℤ p.num) e.0 e.1 (along _ _ (abs-neg_ℤ (pos p.den)) h.den) (along _ _ (abs-neg_ℤ p.num) h.num))
    (λ m. let e = recip_zero p (none p.num l m) in
    record { num = rw (e, num-whole_ℚ (pos 0)) (omega arith); den = rw (e, den-whole_ℚ (pos 0)) (omega arith) }))
  where
    none : (x : ℤ) → x ≤ℤ pos 0 → pos 0 ≤ℤ x → x ≡ pos 0
    none x l m = omega (arith, ints)

    along : (m n : ℕ) → m ≡ n → n < 2 ^ 42 → m < 2 ^ 42
    along m n e h = omega arith

    sized : (q : ℚ) (n d : ℤ) → q.num ≡ n → pos q.den ≡ d → unsigned_abs n < 2 ^ 42 → unsigned_abs d < 2 ^ 42 → IsSmall q
    sized q n d e f h k = let g = ap unsigned_abs e in let i = ap unsigned_abs f in record { num = omega (arith, g); den = omega (arith, i) }

pub small_quotient : (p q : ℚ) → IsSmall p → IsSmall q → checked_quotient p q ≡ Some (p /ℚ q)
small_quotient p q h k = small_product p (recip_ℚ q) h (small_reciprocal q k)

pub small_negative : (p : ℚ) → IsSmall p → IsSmall (neg_ℚ p)
small_negative p h = record { num = rw (num-neg_ℚ p) (along _ _ (abs-neg_ℤ p.num) h.num); den = rw (den-neg_ℚ p) h.den }
  where
    along : (m n : ℕ) → m ≡ n → n < 2 ^ 42 → m < 2 ^ 42
    along m n e h = omega arith

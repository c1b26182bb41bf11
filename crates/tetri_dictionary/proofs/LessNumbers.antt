-- A small width less a number that is bounded stays in range.
use Rattle.std.proofs.Common.{◌≡◌, ℕ, ◌+◌, ◌*◌, ◌^◌, ◌<◌, ◌≤◌, sym, ap, ◌∙◌, subst, arith, Some, None, [], ◌∷◌}
use Rattle.std.specs.Prelude.{unsigned_abs, int_div}
use Rattle.std.proofs.Math.Nat.{mul-le-mul_left, mul_comm, div-le_self}
use Rattle.std.proofs.lemmas.Int.{ints, unsigned_abs-mul}
use lib.IntN.{ℤ, pos, ◌+ℤ◌, ◌*ℤ◌}
use mir.Val.{to_z, of_z}
use mir.Syntax.{w64, w128}
use Rattle.tetri_algebra.specs.Gcd.{gcd_of}
use Rattle.tetri_algebra.specs.Integers.{abs-neg_ℤ}
use Rattle.tetri_algebra.specs.Quotients.{abs-int_div}
use Rattle.tetri_algebra.specs.Rational.{ℚ, whole_ℚ}
use Rattle.tetri_algebra.specs.RationalRing.{◌+ℚ◌, neg_ℚ, num-whole_ℚ, den-whole_ℚ, num-neg_ℚ, den-neg_ℚ}
use Rattle.tetri_algebra.specs.Range.{AreWithin}
use Rattle.tetri_num.specs.Forms.{sum_numbers, sum_left, sum_right, sum_total, sum_den}
use Rattle.tetri_num.specs.Checked.{checked_sum, checked_difference}
use Rattle.tetri_num.proofs.FractionLaws.{value_within_some}
use Rattle.tetri_rows.proofs.RowLaws.{wide_word, word}
use Rattle.tetri_dictionary.specs.Mirrors.{IsWidth, IsBounded}

product_le : (m n a b : ℕ) → m ≤ a → n ≤ b → m * n ≤ a * b
product_le m n a b h k =
    let p : m * n ≤ m * b = mul-le-mul_left m k in
    let q : b * m ≤ b * a = mul-le-mul_left b h in
    let e = mul_comm b m in
    let f = mul_comm b a in
    omega arith

quotient_le : (a : ℤ) (k : ℕ) → unsigned_abs (int_div a (pos k)) ≤ unsigned_abs a
quotient_le a k = rw (abs-int_div a k) (div-le_self (unsigned_abs a) k)

abs_product_le : (x y : ℤ) (a b : ℕ) → unsigned_abs x ≤ a → unsigned_abs y ≤ b → unsigned_abs (x *ℤ y) ≤ a * b
abs_product_le x y a b h k = rw (unsigned_abs-mul x y) (product_le (unsigned_abs x) (unsigned_abs y) a b h k)

abs_sum_le : (x y : ℤ) → unsigned_abs (x +ℤ y) ≤ unsigned_abs x + unsigned_abs y
abs_sum_le x y = omega (arith, ints)

below : (m n : ℕ) → m < 2 ^ 10 → n < 2 ^ 100 → m * n < 2 ^ 126
below m n h k =
    let a : m + 1 ≤ 2 ^ 10 = omega arith in
    let b : n + 1 ≤ 2 ^ 100 = omega arith in
    let p = product_le (m + 1) (n + 1) (2 ^ 10) (2 ^ 100) a b in
    omega (arith, p)

bounded_sum_numbers : (a b c d : ℤ) → unsigned_abs a < 2 ^ 10 → unsigned_abs b < 2 ^ 10 → unsigned_abs c < 2 ^ 100 → unsigned_abs d < 2 ^ 100 → AreWithin (sum_numbers a b c d)
bounded_sum_numbers a b c d ha hb hc hd =
    let g = gcd_of (unsigned_abs b) (unsigned_abs d) in
    let h = gcd_of (unsigned_abs (sum_total a b c d)) g in
    let l : unsigned_abs (sum_left a b c d) ≤ unsigned_abs a * unsigned_abs d = abs_product_le a (int_div d (pos g)) _ _ (omega arith) (quotient_le d g) in
    let r : unsigned_abs (sum_right a b c d) ≤ unsigned_abs c * unsigned_abs b = abs_product_le c (int_div b (pos g)) _ _ (omega arith) (quotient_le b g) in
    let m : unsigned_abs (sum_den a b c d) ≤ unsigned_abs b * unsigned_abs d = abs_product_le (int_div b (pos g)) (int_div d (pos h)) _ _ (quotient_le b g) (quotient_le d h) in
    let t : unsigned_abs (sum_total a b c d) ≤ unsigned_abs (sum_left a b c d) + unsigned_abs (sum_right a b c d) = abs_sum_le (sum_left a b c d) (sum_right a b c d) in
    let x = below (unsigned_abs a) (unsigned_abs d) ha hd in
    let y = below (unsigned_abs b) (unsigned_abs c) hb hc in
    let z = below (unsigned_abs b) (unsigned_abs d) hb hd in
    let s = mul_comm (unsigned_abs c) (unsigned_abs b) in
    within (sum_left a b c d) (sum_right a b c d) (sum_total a b c d) (sum_den a b c d) _ _ _ l r m t x _ y s z
  where
    within : (l r t m : ℤ) (x y z : ℕ) → unsigned_abs l ≤ x → unsigned_abs r ≤ y → unsigned_abs m ≤ z → unsigned_abs t ≤ unsigned_abs l + unsigned_abs r → x < 2 ^ 126 → (w : ℕ) → w < 2 ^ 126 → y ≡ w → z < 2 ^ 126 → AreWithin (l ∷ r ∷ t ∷ m ∷ [])
    within l r t m x y z a b c d e w f g h = (omega arith, (omega arith, (omega arith, (omega arith, tt))))

pub width_below : (w : ℤ) → IsWidth w → unsigned_abs w < 2 ^ 10
width_below w h = omega (arith, ints, h.least, h.most)

-- the width less a number is formed
pub less_formed : (w : ℤ) (q : ℚ) → IsWidth w → IsBounded q → checked_difference (whole_ℚ w) q ≡ Some (whole_ℚ w +ℚ neg_ℚ q)
unfolding checked_sum
less_formed w q h k =
    let p = whole_ℚ w in
    let r = neg_ℚ q in
    value_within_some (sum_numbers p.num (pos p.den) r.num (pos r.den)) (p +ℚ r)
    (bounded_sum_numbers p.num (pos p.den) r.num (pos r.den)
    (subst (λ z. unsigned_abs z < 2 ^ 10) (sym (num-whole_ℚ w)) (width_below w h))
    (subst (λ z. z < 2 ^ 10) (sym (den-whole_ℚ w)) (omega arith))
    (subst (λ z. z < 2 ^ 100) (sym (ap unsigned_abs (num-neg_ℚ q) ∙ abs-neg_ℤ q.num)) k.num)
    (subst (λ z. z < 2 ^ 100) (sym (den-neg_ℚ q)) k.den))

pub less_refused : (w v : ℤ) (p q : ℚ) → IsWidth w → IsBounded q → p ≡ whole_ℚ v → v ≡ w → checked_difference p q ≡ None → ⊥
less_refused w v p q h k e f n =
    let s : checked_difference p q ≡ Some (whole_ℚ w +ℚ neg_ℚ q) = ap (λ z. checked_difference z q) (e ∙ ap whole_ℚ f) ∙ less_formed w q h k in
    cc (s, n)

-- a width as the code passes it
pub width_widened : (w : ℤ) → IsWidth w → to_z w128 (of_z w128 (to_z w64 (of_z w64 w))) ≡ w
width_widened w h =
    let b = width_below w h in
    ap (λ z. to_z w128 (of_z w128 z)) (word w (omega (arith, b))) ∙ wide_word w (omega (arith, b))

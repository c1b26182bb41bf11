-- Sums and products in which nothing is divided.
use Rattle.std.proofs.Common.{◌≡◌, ◌<◌, refl, sym, ap, ◌∙◌, arith, lit<, [], ◌∷◌, Some}
use Rattle.std.specs.Prelude.{unsigned_abs, int_div, ◌<ℤ◌}
use Rattle.std.proofs.Math.Nat.{div_self}
use Rattle.std.proofs.lemmas.Int.{ints}
use lib.IntN.{ℤ, pos, negsuc, neg_ℤ, ◌+ℤ◌, ◌*ℤ◌}
use Rattle.tetri_algebra.specs.Gcd.{gcd_of}
use Rattle.tetri_algebra.specs.Coprime.{gcd_of-one, gcd_of-zero, gcd_of_comm, gcd_of_self}
use Rattle.tetri_algebra.specs.Integers.{*ℤ-one, one-*ℤ}
use Rattle.tetri_algebra.specs.Rational.{ℚ}
use Rattle.tetri_algebra.specs.RationalRing.{ℚ_ring, ◌+ℚ◌, ◌*ℚ◌, neg_ℚ, zero_ℚ, one_ℚ, num-whole_ℚ, den-whole_ℚ, num-neg_ℚ, den-neg_ℚ}
use Rattle.tetri_algebra.specs.RingSolver.{var, unit, nil, minus, ring, ◌⊕◌, ◌⊗◌}
use Rattle.tetri_num.specs.declared.fractions.Frac.{Frac}
use Rattle.tetri_num.specs.Checked.{IsRepresentable, checked_product, checked_sum}
use Rattle.tetri_num.specs.Forms.{common, product_den, product_num, product_numbers, sum_den, sum_numbers, sum_total}
use Rattle.tetri_num.specs.Frac.{value}
use Rattle.tetri_algebra.specs.Range.{AreWithin, IsWithin}
use Rattle.tetri_num.proofs.FractionLaws.{at_side, common-one, quotient_within, value_is, value_within_some, within_along, within_negated}

-- ---- 1 and -1
pub one_is : (x : Frac) → x.num ≡ pos 1 → x.den ≡ pos 1 → value x ≡ one_ℚ
one_is x e f = value_is x one_ℚ (e ∙ sym (num-whole_ℚ (pos 1))) (f ∙ ap pos (sym (den-whole_ℚ (pos 1))))

pub minus_one_is : (x : Frac) → x.num ≡ negsuc 0 → x.den ≡ pos 1 → value x ≡ neg_ℚ one_ℚ
minus_one_is x e f =
    value_is x (neg_ℚ one_ℚ) (e ∙ ap neg_ℤ (sym (num-whole_ℚ (pos 1))) ∙ sym (num-neg_ℚ one_ℚ)) (f ∙ ap pos (sym (den-whole_ℚ (pos 1)) ∙ sym (den-neg_ℚ one_ℚ)))

common-minus : (a : ℤ) → common (negsuc 0) a ≡ pos 1
common-minus a = ap pos (gcd_of_comm 1 (unsigned_abs a) ∙ gcd_of-one (unsigned_abs a))

minus_times : (z : ℤ) → negsuc 0 *ℤ z ≡ neg_ℤ z
minus_times z = omega (arith, ints)

times_minus : (z : ℤ) → z *ℤ negsuc 0 ≡ neg_ℤ z
times_minus z = omega (arith, ints)

minus_left : (c d : ℤ) → IsWithin c → IsWithin d → AreWithin (product_numbers (negsuc 0) (pos 1) c d)
minus_left c d h k =
    let num : product_num (negsuc 0) (pos 1) c d ≡ neg_ℤ (int_div c (common c (pos 1))) =
    ap (λ z. int_div (negsuc 0) z *ℤ int_div c (common c (pos 1))) (common-minus d) ∙ minus_times (int_div c (common c (pos 1))) in
    let den : product_den (negsuc 0) (pos 1) c d ≡ int_div d (common (negsuc 0) d) =
    ap (λ z. int_div (pos 1) z *ℤ int_div d (common (negsuc 0) d)) (common-one c) ∙ one-*ℤ (int_div d (common (negsuc 0) d)) in
    (within_along _ _ num (within_negated (int_div c (common c (pos 1))) (quotient_within c _ h)), (within_along _ _ den (quotient_within d _ k), tt))

minus_right : (a b : ℤ) → IsWithin a → IsWithin b → AreWithin (product_numbers a b (negsuc 0) (pos 1))
minus_right a b h k =
    let num : product_num a b (negsuc 0) (pos 1) ≡ neg_ℤ (int_div a (common a (pos 1))) =
    ap (λ z. int_div a (common a (pos 1)) *ℤ int_div (negsuc 0) z) (common-minus b) ∙ times_minus (int_div a (common a (pos 1))) in
    let den : product_den a b (negsuc 0) (pos 1) ≡ int_div b (common (negsuc 0) b) =
    ap (λ z. int_div b (common (negsuc 0) b) *ℤ int_div (pos 1) z) (common-one a) ∙ *ℤ-one (int_div b (common (negsuc 0) b)) in
    (within_along _ _ num (within_negated (int_div a (common a (pos 1))) (quotient_within a _ h)), (within_along _ _ den (quotient_within b _ k), tt))

minus_num : (neg_ℚ one_ℚ).num ≡ negsuc 0
minus_num = num-neg_ℚ one_ℚ ∙ ap neg_ℤ (num-whole_ℚ (pos 1))

minus_den : pos (neg_ℚ one_ℚ).den ≡ pos 1
minus_den = ap pos (den-neg_ℚ one_ℚ ∙ den-whole_ℚ (pos 1))

pub checked_product-minus_left : (p : ℚ) → IsRepresentable p → checked_product (neg_ℚ one_ℚ) p ≡ Some (neg_ℚ p)
unfolding checked_product
checked_product-minus_left p h =
    let q = neg_ℚ one_ℚ in
    value_within_some (product_numbers q.num (pos q.den) p.num (pos p.den)) (q *ℚ p)
    (at_side (λ x y. AreWithin (product_numbers x y p.num (pos p.den))) q.num (pos q.den) (negsuc 0) (pos 1) minus_num minus_den (minus_left p.num (pos p.den) h.num h.den))
    ∙ ap Some (ring ℚ_ring (p ∷ []) (minus unit ⊗ var 0) (minus (var 0)) refl)

pub checked_product-minus_right : (p : ℚ) → IsRepresentable p → checked_product p (neg_ℚ one_ℚ) ≡ Some (neg_ℚ p)
unfolding checked_product
checked_product-minus_right p h =
    let q = neg_ℚ one_ℚ in
    value_within_some (product_numbers p.num (pos p.den) q.num (pos q.den)) (p *ℚ q)
    (at_side (λ x y. AreWithin (product_numbers p.num (pos p.den) x y)) q.num (pos q.den) (negsuc 0) (pos 1) minus_num minus_den (minus_right p.num (pos p.den) h.num h.den))
    ∙ ap Some (ring ℚ_ring (p ∷ []) (var 0 ⊗ minus unit) (minus (var 0)) refl)

-- ---- a number and its negative
div_own : (b : ℤ) → pos 0 <ℤ b → int_div b (pos (unsigned_abs b)) ≡ pos 1
div_own (pos n) h = let l : 0 < n = omega (arith, ints) in ap pos (div_self l)
div_own (negsuc n) h = absurd (omega (arith, ints))

common_own : (b : ℤ) → common b b ≡ pos (unsigned_abs b)
common_own b = ap pos (gcd_of_self (unsigned_abs b))

one_part : (b : ℤ) → pos 0 <ℤ b → int_div b (common b b) ≡ pos 1
one_part b h = ap (int_div b) (common_own b) ∙ div_own b h

negatives_total : (a b : ℤ) → pos 0 <ℤ b → sum_total a b (neg_ℤ a) b ≡ pos 0
negatives_total a b h = ap (λ z. a *ℤ z +ℤ neg_ℤ a *ℤ z) (one_part b h) ∙ nothing a
  where
    nothing : (a : ℤ) → a *ℤ pos 1 +ℤ neg_ℤ a *ℤ pos 1 ≡ pos 0
    nothing a = omega (arith, ints)

negatives_den : (a b : ℤ) → pos 0 <ℤ b → sum_den a b (neg_ℤ a) b ≡ pos 1
negatives_den a b h =
    ap (λ z. z *ℤ int_div b (common (sum_total a b (neg_ℤ a) b) (common b b))) (one_part b h)
    ∙ ap (λ z. pos 1 *ℤ int_div b (common z (common b b))) (negatives_total a b h)
    ∙ ap (λ z. pos 1 *ℤ int_div b (pos (gcd_of 0 z))) (gcd_of_self (unsigned_abs b))
    ∙ ap (λ z. pos 1 *ℤ int_div b (pos z)) (gcd_of_comm 0 (unsigned_abs b) ∙ gcd_of-zero (unsigned_abs b))
    ∙ ap (λ z. pos 1 *ℤ z) (div_own b h)

negatives : (a b : ℤ) → pos 0 <ℤ b → IsWithin a → AreWithin (sum_numbers a b (neg_ℤ a) b)
negatives a b h k = (
  within_along _ a (ap (λ z. a *ℤ z) (one_part b h) ∙ *ℤ-one a) k,
  (
    within_along _ (neg_ℤ a) (ap (λ z. neg_ℤ a *ℤ z) (one_part b h) ∙ *ℤ-one (neg_ℤ a)) (within_negated a k),
    (within_along _ (pos 0) (negatives_total a b h) (lit< tt), (within_along _ (pos 1) (negatives_den a b h) (lit< tt), tt)),
  ),
)

den_above : (p : ℚ) → pos 0 <ℤ pos p.den
den_above p = let h = p.positive in omega (arith, ints)

pub checked_sum-negative : (p : ℚ) → IsRepresentable p → checked_sum p (neg_ℚ p) ≡ Some zero_ℚ
unfolding checked_sum
checked_sum-negative p h =
    let q = neg_ℚ p in
    value_within_some (sum_numbers p.num (pos p.den) q.num (pos q.den)) (p +ℚ q)
    (at_side (λ x y. AreWithin (sum_numbers p.num (pos p.den) x y)) q.num (pos q.den) (neg_ℤ p.num) (pos p.den) (num-neg_ℚ p) (ap pos (den-neg_ℚ p)) (negatives p.num (pos p.den) (den_above p) h.num))
    ∙ ap Some (ring ℚ_ring (p ∷ []) (var 0 ⊕ minus (var 0)) nil refl)

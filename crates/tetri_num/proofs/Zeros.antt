-- Operations with 0 and with 1 form only numbers that are in range.
use Rattle.std.proofs.Common.{◌≡◌, refl, sym, ap, ◌∙◌, subst, arith, [], ◌∷◌, Some, lit<}
use Rattle.std.specs.Prelude.{◌<ℤ◌}
use Rattle.std.proofs.lemmas.Int.{ints, by_lt_z}
use lib.IntN.{ℤ, pos}
use Rattle.tetri_algebra.specs.RingSolver.{var, nil, unit, minus, ring, ◌⊕◌, ◌⊗◌}
use Rattle.tetri_algebra.specs.Rational.{ℚ}
use Rattle.tetri_algebra.specs.RationalRing.{ℚ_ring, ◌+ℚ◌, ◌*ℚ◌, neg_ℚ, zero_ℚ, one_ℚ, num-whole_ℚ, den-whole_ℚ, num-neg_ℚ, den-neg_ℚ}
use Rattle.tetri_algebra.specs.RationalReciprocal.{recip_ℚ, recip-one, recip_positive, recip_negative, recip_zero}
use Rattle.tetri_algebra.specs.Range.{AreWithin}
use Rattle.tetri_num.specs.Forms.{sum_numbers, product_numbers}
use Rattle.tetri_num.specs.Checked.{IsRepresentable, checked_sum, checked_difference, checked_product, checked_quotient}
use Rattle.tetri_num.proofs.Common.{within_along}
use Rattle.tetri_num.proofs.Short.{sum_zero_right, sum_zero_left, product_zero_right, product_zero_left, product_one_right, product_one_left}
use Rattle.tetri_num.proofs.Values.{within_negated}
use Rattle.tetri_num.proofs.Checks.{value_within_some}

den_above : (p : ℚ) → pos 0 <ℤ pos p.den
den_above p = let h = p.positive in omega (arith, ints)

-- with the parts of 0 or of 1 in the place of those of a whole number
whole_right : (f : ℤ → ℤ → ℤ → ℤ → Type 0) (a b n : ℤ) (p : ℚ) → p.num ≡ n → p.den ≡ 1 → f a b n (pos 1) → f a b p.num (pos p.den)
whole_right f a b n p e g h = subst (λ z. f a b z (pos p.den)) (sym e) (subst (λ z. f a b n (pos z)) (sym g) h)

whole_left : (f : ℤ → ℤ → ℤ → ℤ → Type 0) (c d n : ℤ) (p : ℚ) → p.num ≡ n → p.den ≡ 1 → f n (pos 1) c d → f p.num (pos p.den) c d
whole_left f c d n p e g h = subst (λ z. f z (pos p.den) c d) (sym e) (subst (λ z. f n (pos z) c d) (sym g) h)

SumWithin : ℤ → ℤ → ℤ → ℤ → Type 0
SumWithin a b c d = AreWithin (sum_numbers a b c d)

ProductWithin : ℤ → ℤ → ℤ → ℤ → Type 0
ProductWithin a b c d = AreWithin (product_numbers a b c d)

sum_answer : (p q r : ℚ) → AreWithin (sum_numbers p.num (pos p.den) q.num (pos q.den)) → p +ℚ q ≡ r → checked_sum p q ≡ Some r
unfolding checked_sum
sum_answer p q r h e = value_within_some (sum_numbers p.num (pos p.den) q.num (pos q.den)) (p +ℚ q) h ∙ ap Some e

product_answer : (p q r : ℚ) → AreWithin (product_numbers p.num (pos p.den) q.num (pos q.den)) → p *ℚ q ≡ r → checked_product p q ≡ Some r
unfolding checked_product
product_answer p q r h e = value_within_some (product_numbers p.num (pos p.den) q.num (pos q.den)) (p *ℚ q) h ∙ ap Some e

pub checked_sum-zero_right : (p : ℚ) → IsRepresentable p → checked_sum p zero_ℚ ≡ Some p
unfolding SumWithin
checked_sum-zero_right p h =
    sum_answer p zero_ℚ p (whole_right SumWithin p.num (pos p.den) (pos 0) zero_ℚ (num-whole_ℚ (pos 0)) (den-whole_ℚ (pos 0)) (sum_zero_right p.num (pos p.den) h.num h.den))
    (ring ℚ_ring (p ∷ []) (var 0 ⊕ nil) (var 0) refl)

pub checked_sum-zero_left : (p : ℚ) → IsRepresentable p → checked_sum zero_ℚ p ≡ Some p
unfolding SumWithin
checked_sum-zero_left p h =
    sum_answer zero_ℚ p p (whole_left SumWithin p.num (pos p.den) (pos 0) zero_ℚ (num-whole_ℚ (pos 0)) (den-whole_ℚ (pos 0)) (sum_zero_left p.num (pos p.den) h.num h.den))
    (ring ℚ_ring (p ∷ []) (nil ⊕ var 0) (var 0) refl)

neg_representable : (p : ℚ) → IsRepresentable p → IsRepresentable (neg_ℚ p)
neg_representable p h =
    record { num = within_along _ _ (num-neg_ℚ p) (within_negated p.num h.num); den = within_along _ _ (ap pos (den-neg_ℚ p)) h.den }

pub checked_difference-zero_right : (p : ℚ) → IsRepresentable p → checked_difference p zero_ℚ ≡ Some p
checked_difference-zero_right p h = ap (λ z. checked_sum p z) (ring ℚ_ring [] (minus nil) nil refl) ∙ checked_sum-zero_right p h

pub checked_difference-zero_left : (p : ℚ) → IsRepresentable p → checked_difference zero_ℚ p ≡ Some (neg_ℚ p)
checked_difference-zero_left p h = checked_sum-zero_left (neg_ℚ p) (neg_representable p h)

pub checked_product-zero_right : (p : ℚ) → IsRepresentable p → checked_product p zero_ℚ ≡ Some zero_ℚ
unfolding ProductWithin
checked_product-zero_right p h =
    product_answer p zero_ℚ zero_ℚ (whole_right ProductWithin p.num (pos p.den) (pos 0) zero_ℚ (num-whole_ℚ (pos 0)) (den-whole_ℚ (pos 0)) (product_zero_right p.num (pos p.den) (den_above p)))
    (ring ℚ_ring (p ∷ []) (var 0 ⊗ nil) nil refl)

pub checked_product-zero_left : (p : ℚ) → IsRepresentable p → checked_product zero_ℚ p ≡ Some zero_ℚ
unfolding ProductWithin
checked_product-zero_left p h =
    product_answer zero_ℚ p zero_ℚ (whole_left ProductWithin p.num (pos p.den) (pos 0) zero_ℚ (num-whole_ℚ (pos 0)) (den-whole_ℚ (pos 0)) (product_zero_left p.num (pos p.den) (den_above p)))
    (ring ℚ_ring (p ∷ []) (nil ⊗ var 0) nil refl)

pub checked_product-one_right : (p : ℚ) → IsRepresentable p → checked_product p one_ℚ ≡ Some p
unfolding ProductWithin
checked_product-one_right p h =
    product_answer p one_ℚ p (whole_right ProductWithin p.num (pos p.den) (pos 1) one_ℚ (num-whole_ℚ (pos 1)) (den-whole_ℚ (pos 1)) (product_one_right p.num (pos p.den) h.num h.den))
    (ring ℚ_ring (p ∷ []) (var 0 ⊗ unit) (var 0) refl)

pub checked_product-one_left : (p : ℚ) → IsRepresentable p → checked_product one_ℚ p ≡ Some p
unfolding ProductWithin
checked_product-one_left p h =
    product_answer one_ℚ p p (whole_left ProductWithin p.num (pos p.den) (pos 1) one_ℚ (num-whole_ℚ (pos 1)) (den-whole_ℚ (pos 1)) (product_one_left p.num (pos p.den) h.num h.den))
    (ring ℚ_ring (p ∷ []) (unit ⊗ var 0) (var 0) refl)

pub checked_quotient-one : (p : ℚ) → IsRepresentable p → checked_quotient p one_ℚ ≡ Some p
checked_quotient-one p h = ap (λ z. checked_product p z) recip-one ∙ checked_product-one_right p h

recip_representable : (p : ℚ) → IsRepresentable p → IsRepresentable (recip_ℚ p)
recip_representable p h =
    by_lt_z (pos 0) p.num
    (λ k. let e = recip_positive p k in record { num = within_along _ _ e.0 h.den; den = within_along _ _ e.1 h.num })
    (λ k. by_lt_z p.num (pos 0)
    (λ l. let e = recip_negative p l in record { num = within_along _ _ e.0 (within_negated (pos p.den) h.den); den = within_along _ _ e.1 (within_negated p.num h.num) })
    (λ l.
    let e : recip_ℚ p ≡ zero_ℚ = recip_zero p (omega (arith, ints)) in
    subst IsRepresentable (sym e) (record { num = within_along _ (pos 0) (num-whole_ℚ (pos 0)) (lit< tt); den = within_along _ (pos 1) (ap pos (den-whole_ℚ (pos 0))) (lit< tt) })))

pub checked_quotient-zero : (p : ℚ) → IsRepresentable p → checked_quotient zero_ℚ p ≡ Some zero_ℚ
checked_quotient-zero p h = checked_product-zero_left (recip_ℚ p) (recip_representable p h)

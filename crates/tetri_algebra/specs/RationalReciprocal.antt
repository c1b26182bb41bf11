-- Reciprocals of rational numbers.
use Rattle.std.proofs.Common.{◌≡◌, ℕ, refl, sym, ap, ◌∙◌, arith, [], ◌∷◌}
use Prim.Native.Nat.{zero, suc}
use Rattle.std.specs.Prelude.{unsigned_abs, ◌<ℤ◌}
use Rattle.std.proofs.lemmas.Int.{ints}
use lib.IntN.{ℤ, pos, negsuc, ◌*ℤ◌, neg_ℤ}
use Rattle.tetri_algebra.specs.Gcd.{gcd_of}
use Rattle.tetri_algebra.specs.Coprime.{gcd_of_comm}
use Rattle.tetri_algebra.specs.Integers.{abs-neg_ℤ}
use Rattle.tetri_algebra.specs.RingSolver.{var, num, minus, ring, ◌⊗◌}
use Rattle.tetri_algebra.specs.IntegerRing.{ℤ_ring}
use Rattle.tetri_algebra.specs.Rational.{ℚ, fraction, same_fraction, fraction-one, fraction_parts, same_parts}
use Rattle.tetri_algebra.specs.RationalRing.{◌*ℚ◌, one_ℚ, zero_ℚ, mul_fraction_right, positive_product, *ℚ_comm, *ℚ_assoc, one-*ℚ, num-whole_ℚ, den-whole_ℚ}

-- d / n, and 0 where n is 0
abbrev pub turned : ℤ → ℕ → ℚ
turned (pos n) d = fraction (pos d) n
turned (negsuc n) d = fraction (neg_ℤ (pos d)) (suc n)

-- 1 / p, and 0 for 0
unfoldable pub recip_ℚ : ℚ → ℚ
recip_ℚ p = turned p.num p.den

-- the quotient
infixl 7 ◌/ℚ◌
abbrev pub ◌/ℚ◌ : ℚ → ℚ → ℚ
p /ℚ q = p *ℚ recip_ℚ q

-- ---- numerators and denominators
pub recip_positive : (p : ℚ) → pos 0 <ℤ p.num → ((recip_ℚ p).num ≡ pos p.den) × (pos (recip_ℚ p).den ≡ p.num)
unfolding recip_ℚ
recip_positive p h = by_sign p.num p.den h p.lowest
  where
    by_sign : (n : ℤ) (d : ℕ) → pos 0 <ℤ n → gcd_of (unsigned_abs n) d ≡ 1 → ((turned n d).num ≡ pos d) × (pos (turned n d).den ≡ n)
    by_sign (pos n) d h l = let e = fraction_parts (pos d) n (omega (arith, ints)) (gcd_of_comm d n ∙ l) in (e.0, ap pos e.1)
    by_sign (negsuc n) d h l = absurd (omega (arith, ints))

pub recip_negative : (p : ℚ) → p.num <ℤ pos 0 → ((recip_ℚ p).num ≡ neg_ℤ (pos p.den)) × (pos (recip_ℚ p).den ≡ neg_ℤ p.num)
unfolding recip_ℚ
recip_negative p h = by_sign p.num p.den h p.lowest
  where
    by_sign : (n : ℤ) (d : ℕ) → n <ℤ pos 0 → gcd_of (unsigned_abs n) d ≡ 1 → ((turned n d).num ≡ neg_ℤ (pos d)) × (pos (turned n d).den ≡ neg_ℤ n)
    by_sign (pos n) d h l = absurd (omega (arith, ints))
    by_sign (negsuc n) d h l =
        let e = fraction_parts (neg_ℤ (pos d)) (suc n) (omega arith) (ap (λ m. gcd_of m (suc n)) (abs-neg_ℤ (pos d)) ∙ gcd_of_comm d (suc n) ∙ l) in
        (e.0, ap pos e.1)

pub recip_zero : (p : ℚ) → p.num ≡ pos 0 → recip_ℚ p ≡ zero_ℚ
unfolding recip_ℚ fraction
recip_zero p e = ap (λ n. turned n p.den) e

-- ---- laws
pub *ℚ-recip : (p : ℚ) → (p.num ≡ pos 0 → ⊥) → p *ℚ recip_ℚ p ≡ one_ℚ
unfolding recip_ℚ
*ℚ-recip p h = by_sign p.num refl
  where
    by_sign : (n : ℤ) → p.num ≡ n → p *ℚ turned n p.den ≡ one_ℚ
    by_sign (pos zero) e = absurd (h e)
    by_sign (pos (suc n)) e =
        mul_fraction_right p (pos p.den) (suc n) (omega arith)
        ∙ same_fraction _ _ (pos 1) 1 (positive_product _ _ p.positive (omega arith)) (omega arith)
        (ap (λ z. (z *ℤ pos p.den) *ℤ pos 1) e
        ∙ ring ℤ_ring (pos (suc n) ∷ pos p.den ∷ []) ((var 0 ⊗ var 1) ⊗ num (pos 1)) (num (pos 1) ⊗ (var 1 ⊗ var 0)) refl)
        ∙ fraction-one (pos 1)
    by_sign (negsuc n) e =
        mul_fraction_right p (neg_ℤ (pos p.den)) (suc n) (omega arith)
        ∙ same_fraction _ _ (pos 1) 1 (positive_product _ _ p.positive (omega arith)) (omega arith)
        (ap (λ z. (z *ℤ neg_ℤ (pos p.den)) *ℤ pos 1) e
        ∙ ring ℤ_ring (pos (suc n) ∷ pos p.den ∷ []) ((minus (var 0) ⊗ minus (var 1)) ⊗ num (pos 1)) (num (pos 1) ⊗ (var 1 ⊗ var 0)) refl)
        ∙ fraction-one (pos 1)

pub recip-one : recip_ℚ one_ℚ ≡ one_ℚ
recip-one =
    let e = recip_positive one_ℚ one_positive in
    same_parts (recip_ℚ one_ℚ) one_ℚ (e.0 ∙ ap pos (den-whole_ℚ (pos 1)) ∙ sym (num-whole_ℚ (pos 1))) (ap unsigned_abs (e.1 ∙ num-whole_ℚ (pos 1)) ∙ sym (den-whole_ℚ (pos 1)))
  where
    one_positive : pos 0 <ℤ one_ℚ.num
    one_positive = rw (num-whole_ℚ (pos 1)) (omega (arith, ints))

-- the quotient times the divisor
pub /ℚ-*ℚ : (p q : ℚ) → (q.num ≡ pos 0 → ⊥) → (p /ℚ q) *ℚ q ≡ p
/ℚ-*ℚ p q h =
    *ℚ_assoc p (recip_ℚ q) q ∙ ap (λ x. p *ℚ x) (*ℚ_comm (recip_ℚ q) q ∙ *ℚ-recip q h) ∙ *ℚ_comm p one_ℚ ∙ one-*ℚ p

-- The signs of a row's numbers are those of its whole numbers.
use Rattle.std.proofs.Common.{◌≡◌, ℕ, ◌<◌, refl, sym, ap, ◌∙◌, subst, arith, List, length, get_or, Bool, true, false}
use Rattle.std.specs.Prelude.{unsigned_abs, ◌<ℤ◌}
use Rattle.std.proofs.lemmas.List.{get_or-map}
use Rattle.std.proofs.lemmas.Int.{ints}
use lib.IntN.{ℤ, pos, ◌*ℤ◌, zero-*ℤ}
use lib.Signed.{lt_z}
use Rattle.tetri_algebra.specs.Integers.{abs_positive, mul_lt_right, mul_lt_cancel}
use Rattle.tetri_algebra.specs.Rational.{ℚ, fraction, fraction-cross}
use Rattle.tetri_algebra.specs.RationalRing.{zero_ℚ, num-whole_ℚ}
use Rattle.tetri_rows.specs.Small.{IsDenominator}
use Rattle.tetri_rows.specs.Rows.{meaning}
use Rattle.tetri_rows.proofs.Meanings.{zero_fraction}

pub test_of : (x y : ℤ) → x <ℤ y → lt_z x y ≡ true
test_of x y h = grind (arith, ints)

pub from_test : (x y : ℤ) → lt_z x y ≡ true → x <ℤ y
from_test x y h = grind (arith, ints)

pub same_test : (s t : Bool) → (s ≡ true → t ≡ true) → (t ≡ true → s ≡ true) → s ≡ t
same_test true t f g = sym (f refl)
same_test false true f g = g refl
same_test false false f g = refl

above : (d : ℕ) → 0 < d → pos 0 <ℤ pos d
above d h = omega (arith, ints)

-- ---- numbers that are equal but for positive factors have one sign
cross_below : (a b : ℤ) (d e : ℕ) → 0 < d → 0 < e → a *ℤ pos d ≡ b *ℤ pos e → a <ℤ pos 0 → b <ℤ pos 0
cross_below a b d e hd he c h =
    let p : (a *ℤ pos d) <ℤ pos 0 = subst (λ z. (a *ℤ pos d) <ℤ z) (zero-*ℤ (pos d)) (mul_lt_right (pos d) a (pos 0) (above d hd) h) in
    let q : (b *ℤ pos e) <ℤ (pos 0 *ℤ pos e) = subst (λ z. z <ℤ (pos 0 *ℤ pos e)) c (subst (λ z. (a *ℤ pos d) <ℤ z) (sym (zero-*ℤ (pos e))) p) in
    mul_lt_cancel (pos e) b (pos 0) (above e he) q

cross_above : (a b : ℤ) (d e : ℕ) → 0 < d → 0 < e → a *ℤ pos d ≡ b *ℤ pos e → pos 0 <ℤ a → pos 0 <ℤ b
cross_above a b d e hd he c h =
    let p : pos 0 <ℤ (a *ℤ pos d) = subst (λ z. z <ℤ (a *ℤ pos d)) (zero-*ℤ (pos d)) (mul_lt_right (pos d) (pos 0) a (above d hd) h) in
    let q : (pos 0 *ℤ pos e) <ℤ (b *ℤ pos e) = subst (λ z. (pos 0 *ℤ pos e) <ℤ z) c (subst (λ z. z <ℤ (a *ℤ pos d)) (sym (zero-*ℤ (pos e))) p) in
    mul_lt_cancel (pos e) (pos 0) b (above e he) q

pub same_below : (a b : ℤ) (d e : ℕ) → 0 < d → 0 < e → a *ℤ pos d ≡ b *ℤ pos e → lt_z a (pos 0) ≡ lt_z b (pos 0)
same_below a b d e hd he c =
    same_test (lt_z a (pos 0)) (lt_z b (pos 0))
    (λ h. test_of b (pos 0) (cross_below a b d e hd he c (from_test a (pos 0) h)))
    (λ h. test_of a (pos 0) (cross_below b a e d he hd (sym c) (from_test b (pos 0) h)))

pub same_above : (a b : ℤ) (d e : ℕ) → 0 < d → 0 < e → a *ℤ pos d ≡ b *ℤ pos e → lt_z (pos 0) a ≡ lt_z (pos 0) b
same_above a b d e hd he c =
    same_test (lt_z (pos 0) a) (lt_z (pos 0) b)
    (λ h. test_of (pos 0) b (cross_above a b d e hd he c (from_test (pos 0) a h)))
    (λ h. test_of (pos 0) a (cross_above b a e d he hd (sym c) (from_test (pos 0) b h)))

-- ---- a row's number
number_is : (d : ℤ) (ns : List ℤ) (k : ℕ) → k < length ns → get_or (meaning d ns) k zero_ℚ ≡ fraction (get_or ns k (pos 0)) (unsigned_abs d)
number_is d ns k l = get_or-map (λ n. fraction n (unsigned_abs d)) ns k (pos 0) zero_ℚ l

pub negative_number : (d : ℤ) (ns : List ℤ) (k : ℕ) → IsDenominator d → k < length ns → lt_z (get_or (meaning d ns) k zero_ℚ).num (pos 0) ≡ lt_z (get_or ns k (pos 0)) (pos 0)
negative_number d ns k h l =
    let n = get_or ns k (pos 0) in
    let p = fraction n (unsigned_abs d) in
    ap (λ (q : ℚ). lt_z q.num (pos 0)) (number_is d ns k l) ∙ same_below p.num n (unsigned_abs d) p.den (abs_positive d h.positive) p.positive (fraction-cross n (unsigned_abs d) (abs_positive d h.positive))

pub positive_number : (d : ℤ) (ns : List ℤ) (k : ℕ) → IsDenominator d → k < length ns → lt_z (pos 0) (get_or (meaning d ns) k zero_ℚ).num ≡ lt_z (pos 0) (get_or ns k (pos 0))
positive_number d ns k h l =
    let n = get_or ns k (pos 0) in
    let p = fraction n (unsigned_abs d) in
    ap (λ (q : ℚ). lt_z (pos 0) q.num) (number_is d ns k l) ∙ same_above p.num n (unsigned_abs d) p.den (abs_positive d h.positive) p.positive (fraction-cross n (unsigned_abs d) (abs_positive d h.positive))

pub zero_number : (d : ℤ) (ns : List ℤ) (k : ℕ) → IsDenominator d → k < length ns → get_or ns k (pos 0) ≡ pos 0 → get_or (meaning d ns) k zero_ℚ ≡ zero_ℚ
zero_number d ns k h l e = number_is d ns k l ∙ ap (λ z. fraction z (unsigned_abs d)) e ∙ zero_fraction (unsigned_abs d) (abs_positive d h.positive)

-- a number that means something else than 0 is not 0
pub not_zero_number : (d : ℤ) (ns : List ℤ) (k : ℕ) → IsDenominator d → k < length ns → ((get_or (meaning d ns) k zero_ℚ).num ≡ pos 0 → ⊥) → get_or ns k (pos 0) ≡ pos 0 → ⊥
not_zero_number d ns k h l n e = n (ap (λ (q : ℚ). q.num) (zero_number d ns k h l e) ∙ zero_num)
  where
    zero_num : zero_ℚ.num ≡ pos 0
    zero_num = num-whole_ℚ (pos 0)

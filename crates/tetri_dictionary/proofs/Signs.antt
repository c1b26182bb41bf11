-- Rationals that are not below 0.
use Rattle.std.proofs.Common.{◌≡◌, ℕ, ◌*◌, ◌<◌, refl, sym, ap, ◌∙◌, subst, arith, [], ◌∷◌, true, false}
use Prim.Native.Nat.{zero, suc}
use Rattle.std.specs.Prelude.{◌≤ℤ◌, ◌<ℤ◌}
use Rattle.std.proofs.lemmas.Bool.{false≢true}
use Rattle.std.proofs.lemmas.Int.{ints}
use lib.IntN.{ℤ, pos, negsuc, ◌+ℤ◌, ◌*ℤ◌, neg_ℤ}
use lib.Signed.{lt_z}
use borrow.Author.Differences.{lt-true, lt-false}
use Rattle.tetri_algebra.specs.IntegerRing.{ℤ_ring}
use Rattle.tetri_algebra.specs.Rational.{ℚ, fraction, fraction-cross, whole_ℚ}
use Rattle.tetri_algebra.specs.RationalReciprocal.{recip_ℚ, turned}
use Rattle.tetri_algebra.specs.Integers.{mul_le_cancel}
use Rattle.tetri_algebra.specs.RationalRing.{ℚ_ring, sum_of_parts, product_of_parts, num-neg_ℚ, den-neg_ℚ, num-whole_ℚ, ◌+ℚ◌, ◌*ℚ◌, neg_ℚ, positive_product, zero_ℚ}
use Rattle.tetri_algebra.specs.RingSolver.{var, minus, ring, ◌⊕◌, ◌⊗◌}
use Rattle.tetri_dictionary.specs.Tables.{is_positive, is_less}

pub record NotBelow (p : ℚ) : Type 0 where
  pub sign : pos 0 ≤ℤ p.num

pub le_cancel : (x u : ℤ) (d : ℕ) → 0 < d → (x *ℤ pos d) ≤ℤ (u *ℤ pos d) → x ≤ℤ u
le_cancel x u d h k = mul_le_cancel (pos d) x u (above d h) k
  where
    above : (d : ℕ) → 0 < d → pos 0 <ℤ pos d
    above d h = omega (arith, ints)

pub times_not_below : (a : ℤ) (d : ℕ) → pos 0 ≤ℤ a → pos 0 ≤ℤ (a *ℤ pos d)
times_not_below (pos n) d h = omega (arith, ints)
times_not_below (negsuc n) d h = absurd (omega (arith, ints))

zero_times : (d : ℕ) → pos 0 *ℤ pos d ≡ pos 0
zero_times d = omega (arith, ints)

pub norm_not_below : (n : ℤ) (d : ℕ) → 0 < d → pos 0 ≤ℤ n → NotBelow (fraction n d)
norm_not_below n d h k =
    let t = times_not_below n (fraction n d).den k in
    record { sign = le_cancel (pos 0) (fraction n d).num d h (subst (λ z. z ≤ℤ ((fraction n d).num *ℤ pos d)) (sym (zero_times d)) (subst (λ z. pos 0 ≤ℤ z) (sym (fraction-cross n d h)) t)) }

sum_not_below : (a b : ℤ) → pos 0 ≤ℤ a → pos 0 ≤ℤ b → pos 0 ≤ℤ (a +ℤ b)
sum_not_below a b h k = omega (arith, ints)

product_not_below : (a b : ℤ) → pos 0 ≤ℤ a → pos 0 ≤ℤ b → pos 0 ≤ℤ (a *ℤ b)
product_not_below a (pos n) h k = times_not_below a n h
product_not_below a (negsuc n) h k = absurd (omega (arith, ints))

pub add_not_below : (p q : ℚ) → NotBelow p → NotBelow q → NotBelow (◌+ℚ◌ p q)
add_not_below p q h k = subst NotBelow (sym (sum_of_parts p q)) (norm_not_below _ _ (positive_product _ _ p.positive q.positive) (sum_not_below _ _ (times_not_below p.num q.den h.sign) (times_not_below q.num p.den k.sign)))

pub mul_not_below : (p q : ℚ) → NotBelow p → NotBelow q → NotBelow (◌*ℚ◌ p q)
mul_not_below p q h k = subst NotBelow (sym (product_of_parts p q)) (norm_not_below _ _ (positive_product _ _ p.positive q.positive) (product_not_below _ _ h.sign k.sign))

pub recip_not_below : (p : ℚ) → is_positive p ≡ true → NotBelow (recip_ℚ p)
unfolding recip_ℚ
recip_not_below p h = by_num p.num p.den h
  where
    by_num : (n : ℤ) (d : ℕ) → lt_z (pos 0) n ≡ true → NotBelow (turned n d)
    by_num (pos zero) d e = absurd (false≢true e)
    by_num (negsuc k) d e = absurd (false≢true e)
    by_num (pos (suc k)) d e = norm_not_below (pos d) (suc k) (omega arith) (omega (arith, ints))

pub whole_not_below : (z : ℤ) → pos 0 ≤ℤ z → NotBelow (whole_ℚ z)
whole_not_below z h = record { sign = subst (λ n. pos 0 ≤ℤ n) (sym (num-whole_ℚ z)) h }

-- q - p is not below 0
abbrev pub AtMost : ℚ → ℚ → Type 0
AtMost p q = NotBelow (◌+ℚ◌ q (neg_ℚ p))

diff_is : (p q : ℚ) → ◌+ℚ◌ q (neg_ℚ p) ≡ fraction (q.num *ℤ pos p.den +ℤ neg_ℤ p.num *ℤ pos q.den) (q.den * p.den)
diff_is p q =
    sum_of_parts q (neg_ℚ p)
    ∙ ap (λ z. fraction (q.num *ℤ pos (neg_ℚ p).den +ℤ z *ℤ pos q.den) (q.den * (neg_ℚ p).den)) (num-neg_ℚ p)
    ∙ ap (λ d. fraction (q.num *ℤ pos d +ℤ neg_ℤ p.num *ℤ pos q.den) (q.den * d)) (den-neg_ℚ p)

not_less_is : (x y : ℤ) → lt_z x y ≡ false → pos 0 ≤ℤ (x +ℤ neg_ℤ y)
not_less_is x y e = let h = lt-false x y e in omega (arith, ints)

less_is : (x y : ℤ) → lt_z y x ≡ true → pos 0 ≤ℤ (x +ℤ neg_ℤ y)
less_is x y e = let h = lt-true y x e in omega (arith, ints)

crossed : (a b c d : ℤ) → a *ℤ b +ℤ neg_ℤ (c *ℤ d) ≡ a *ℤ b +ℤ neg_ℤ c *ℤ d
crossed a b c d = ring ℤ_ring (a ∷ b ∷ c ∷ d ∷ []) (var 0 ⊗ var 1 ⊕ minus (var 2 ⊗ var 3)) (var 0 ⊗ var 1 ⊕ minus (var 2) ⊗ var 3) refl

-- what a test says
pub not_less : (p q : ℚ) → is_less q p ≡ false → AtMost p q
not_less p q e =
    subst NotBelow (sym (diff_is p q)) (norm_not_below _ _ (positive_product _ _ q.positive p.positive)
    (subst (λ z. pos 0 ≤ℤ z) (crossed q.num (pos p.den) p.num (pos q.den)) (not_less_is (q.num *ℤ pos p.den) (p.num *ℤ pos q.den) e)))

pub less_at_most : (p q : ℚ) → is_less p q ≡ true → AtMost p q
less_at_most p q e =
    subst NotBelow (sym (diff_is p q)) (norm_not_below _ _ (positive_product _ _ q.positive p.positive)
    (subst (λ z. pos 0 ≤ℤ z) (crossed q.num (pos p.den) p.num (pos q.den)) (less_is (q.num *ℤ pos p.den) (p.num *ℤ pos q.den) e)))

pub at_most_trans : (p q r : ℚ) → AtMost p q → AtMost q r → AtMost p r
at_most_trans p q r h k =
    subst NotBelow (ring ℚ_ring (p ∷ q ∷ r ∷ []) ((var 1 ⊕ minus (var 0)) ⊕ (var 2 ⊕ minus (var 1))) (var 2 ⊕ minus (var 0)) refl) (add_not_below (◌+ℚ◌ q (neg_ℚ p)) (◌+ℚ◌ r (neg_ℚ q)) h k)

pub zero_not_below : NotBelow zero_ℚ
zero_not_below = whole_not_below (pos 0) (omega (arith, ints))

pub above_sign : (n : ℤ) → lt_z (pos 0) n ≡ true → pos 0 ≤ℤ n
above_sign n e = let h = lt-true (pos 0) n e in omega (arith, ints)

pub not_above : (a : ℚ) → is_positive a ≡ false → NotBelow (neg_ℚ a)
not_above a e = record { sign = subst (λ n. pos 0 ≤ℤ n) (sym (num-neg_ℚ a)) (by_num a.num e) }
  where
    by_num : (n : ℤ) → lt_z (pos 0) n ≡ false → pos 0 ≤ℤ neg_ℤ n
    by_num n e = let h = lt-false (pos 0) n e in omega (arith, ints)

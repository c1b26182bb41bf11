-- Ratios of the numbers of two rows, and their order.
use Rattle.std.proofs.Common.{◌≡◌, ℕ, ◌<◌, ◌^◌, refl, sym, ap, ◌∙◌, subst, arith, [], ◌∷◌, ◌*◌, Bool}
use Rattle.std.specs.Prelude.{unsigned_abs, ◌<ℤ◌}
use Rattle.std.proofs.lemmas.Int.{ints}
use lib.IntN.{ℤ, pos, ◌*ℤ◌, neg_ℤ}
use lib.Signed.{lt_z}
use Rattle.tetri_algebra.specs.Integers.{abs_of_positive, abs_positive, mul_positive, mul_lt_right, mul_lt_cancel}
use Rattle.tetri_algebra.specs.RingSolver.{var, minus, ring, ◌⊗◌}
use Rattle.tetri_algebra.specs.IntegerRing.{ℤ_ring}
use Rattle.tetri_algebra.specs.Rational.{ℚ, fraction, fraction-cross, same_fraction}
use Rattle.tetri_algebra.specs.RationalRing.{neg_ℚ, mul-fraction, positive_product}
use Rattle.tetri_algebra.specs.RationalReciprocal.{◌/ℚ◌}
use Rattle.tetri_rows.specs.Small.{IsDenominator}
use Rattle.tetri_rows.specs.Rows.{minus_ratio}
use Rattle.tetri_rows.proofs.RowSigns.{test_of, from_test, same_test}
use Rattle.tetri_rows.proofs.Solved.{neg_of_fraction, fraction_not_zero, quotient_is}

above_zero : (d : ℕ) → 0 < d → pos 0 <ℤ pos d
above_zero d h = omega (arith, ints)

not_zero : (a : ℤ) → pos 0 <ℤ a → a ≡ pos 0 → ⊥
not_zero a h e = omega (arith, ints)

-- ---- a ratio as a fraction
ratio_parts : (o a : ℤ) (d e h : ℕ) (z : ℤ) → 0 < d → 0 < e → 0 < h → (a ≡ pos 0 → ⊥) → (z *ℤ a) *ℤ pos e ≡ neg_ℤ o *ℤ (pos h *ℤ pos d) → neg_ℚ (fraction o e) /ℚ fraction a d ≡ fraction z h
ratio_parts o a d e h z pd pe ph n c =
    quotient_is (neg_ℚ (fraction o e)) (fraction a d) (fraction z h) (fraction_not_zero a d pd n)
    (mul-fraction z h a d ph pd ∙ same_fraction (z *ℤ a) (h * d) (neg_ℤ o) e (positive_product h d ph pd) pe c ∙ sym (neg_of_fraction o e pe))

pub ratio_is : (d e o a t b : ℤ) → IsDenominator d → IsDenominator e → pos 0 <ℤ a → t ≡ neg_ℤ o *ℤ d → b ≡ e *ℤ a → pos 0 <ℤ b → minus_ratio d e o a ≡ fraction t (unsigned_abs b)
ratio_is d e o a t b hd he ha te be hb =
    ratio_parts o a (unsigned_abs d) (unsigned_abs e) (unsigned_abs b) t (abs_positive d hd.positive) (abs_positive e he.positive) (abs_positive b hb) (not_zero a ha)
    (ap (λ z. (t *ℤ a) *ℤ z) (abs_of_positive e he.positive) ∙ ap (λ z. (z *ℤ a) *ℤ e) te
    ∙ ring ℤ_ring (o ∷ d ∷ a ∷ e ∷ []) (((minus (var 0) ⊗ var 1) ⊗ var 2) ⊗ var 3) (minus (var 0) ⊗ ((var 3 ⊗ var 2) ⊗ var 1)) refl
    ∙ ap (λ z. neg_ℤ o *ℤ (z *ℤ d)) (sym be ∙ sym (abs_of_positive b hb)) ∙ ap (λ z. neg_ℤ o *ℤ (pos (unsigned_abs b) *ℤ z)) (sym (abs_of_positive d hd.positive)))

-- ---- the order
scaled_less : (u v x y m n : ℤ) → pos 0 <ℤ m → pos 0 <ℤ n → u *ℤ m ≡ x *ℤ n → v *ℤ m ≡ y *ℤ n → u <ℤ v → x <ℤ y
scaled_less u v x y m n hm hn e f h = mul_lt_cancel n x y hn (subst (λ z. z <ℤ (y *ℤ n)) e (subst (λ z. (u *ℤ m) <ℤ z) f (mul_lt_right m u v hm h)))

scaled_test : (u v x y m n : ℤ) → pos 0 <ℤ m → pos 0 <ℤ n → u *ℤ m ≡ x *ℤ n → v *ℤ m ≡ y *ℤ n → lt_z u v ≡ lt_z x y
scaled_test u v x y m n hm hn e f =
    same_test (lt_z u v) (lt_z x y)
    (λ h. test_of x y (scaled_less u v x y m n hm hn e f (from_test u v h)))
    (λ h. test_of u v (scaled_less x y u v n m hn hm (sym e) (sym f) (from_test x y h)))

-- of two numbers as their numerators and denominators, which are fractions of t over b and of u over c
compared : (xn xd yn yd d e o a p b : ℤ) → pos 0 <ℤ xd → pos 0 <ℤ yd → pos 0 <ℤ d → pos 0 <ℤ e → pos 0 <ℤ a → pos 0 <ℤ b →
    xn *ℤ (e *ℤ a) ≡ (neg_ℤ o *ℤ d) *ℤ xd → yn *ℤ (e *ℤ b) ≡ (neg_ℤ p *ℤ d) *ℤ yd → lt_z (xn *ℤ yd) (yn *ℤ xd) ≡ lt_z (neg_ℤ o *ℤ b) (neg_ℤ p *ℤ a)
compared xn xd yn yd d e o a p b hx hy hd he ha hb cx cy =
    scaled_test (xn *ℤ yd) (yn *ℤ xd) (neg_ℤ o *ℤ b) (neg_ℤ p *ℤ a) ((e *ℤ a) *ℤ (e *ℤ b)) ((d *ℤ e) *ℤ (xd *ℤ yd))
    (mul_positive _ _ (mul_positive e a he ha) (mul_positive e b he hb)) (mul_positive _ _ (mul_positive d e hd he) (mul_positive xd yd hx hy))
    (ring ℤ_ring (xn ∷ yd ∷ e ∷ a ∷ b ∷ []) ((var 0 ⊗ var 1) ⊗ ((var 2 ⊗ var 3) ⊗ (var 2 ⊗ var 4))) ((var 0 ⊗ (var 2 ⊗ var 3)) ⊗ (var 1 ⊗ (var 2 ⊗ var 4))) refl
    ∙ ap (λ z. z *ℤ (yd *ℤ (e *ℤ b))) cx
    ∙ ring ℤ_ring (o ∷ d ∷ xd ∷ yd ∷ e ∷ b ∷ []) (((minus (var 0) ⊗ var 1) ⊗ var 2) ⊗ (var 3 ⊗ (var 4 ⊗ var 5))) ((minus (var 0) ⊗ var 5) ⊗ ((var 1 ⊗ var 4) ⊗ (var 2 ⊗ var 3))) refl)
    (ring ℤ_ring (yn ∷ xd ∷ e ∷ a ∷ b ∷ []) ((var 0 ⊗ var 1) ⊗ ((var 2 ⊗ var 3) ⊗ (var 2 ⊗ var 4))) ((var 0 ⊗ (var 2 ⊗ var 4)) ⊗ (var 1 ⊗ (var 2 ⊗ var 3))) refl
    ∙ ap (λ z. z *ℤ (xd *ℤ (e *ℤ a))) cy
    ∙ ring ℤ_ring (p ∷ d ∷ xd ∷ yd ∷ e ∷ a ∷ []) (((minus (var 0) ⊗ var 1) ⊗ var 3) ⊗ (var 2 ⊗ (var 4 ⊗ var 5))) ((minus (var 0) ⊗ var 5) ⊗ ((var 1 ⊗ var 4) ⊗ (var 2 ⊗ var 3))) refl)

cross_of : (t b : ℤ) (x : ℚ) → pos 0 <ℤ b → x ≡ fraction t (unsigned_abs b) → x.num *ℤ b ≡ t *ℤ pos x.den
cross_of t b x hb e =
    ap (λ z. x.num *ℤ z) (sym (abs_of_positive b hb)) ∙ ap (λ (q : ℚ). q.num *ℤ pos (unsigned_abs b)) e ∙ fraction-cross t (unsigned_abs b) (abs_positive b hb) ∙ ap (λ (q : ℚ). t *ℤ pos q.den) (sym e)

pub ratios_compared : (d e o a p b : ℤ) → IsDenominator d → IsDenominator e → pos 0 <ℤ a → pos 0 <ℤ b →
    lt_z ((minus_ratio d e o a).num *ℤ pos (minus_ratio d e p b).den) ((minus_ratio d e p b).num *ℤ pos (minus_ratio d e o a).den) ≡ lt_z (neg_ℤ o *ℤ b) (neg_ℤ p *ℤ a)
ratios_compared d e o a p b hd he ha hb =
    let x = minus_ratio d e o a in
    let y = minus_ratio d e p b in
    let ea = mul_positive e a he.positive ha in
    let eb = mul_positive e b he.positive hb in
    compared x.num (pos x.den) y.num (pos y.den) d e o a p b (above_zero x.den x.positive) (above_zero y.den y.positive) hd.positive he.positive ha hb
    (cross_of (neg_ℤ o *ℤ d) (e *ℤ a) x ea (ratio_is d e o a (neg_ℤ o *ℤ d) (e *ℤ a) hd he ha refl refl ea))
    (cross_of (neg_ℤ p *ℤ d) (e *ℤ b) y eb (ratio_is d e p b (neg_ℤ p *ℤ d) (e *ℤ b) hd he hb refl refl eb))

-- the same of products as the code forms them
pub ratios_by_products : (o a p b u v u' v' o' p' : ℤ) (r : Bool) → u' ≡ u → v' ≡ v → u ≡ o' *ℤ b → v ≡ p' *ℤ a → o' ≡ neg_ℤ o → p' ≡ neg_ℤ p → r ≡ lt_z u' v' → IsDenominator a → IsDenominator b → (d e : ℤ) → IsDenominator d → IsDenominator e →
    r ≡ lt_z ((minus_ratio d e o a).num *ℤ pos (minus_ratio d e p b).den) ((minus_ratio d e p b).num *ℤ pos (minus_ratio d e o a).den)
ratios_by_products o a p b u v u' v' o' p' r eu ev uo vp oo pp re ha hb d e hd he =
    re ∙ ap (λ z. lt_z z v') (eu ∙ uo ∙ ap (λ z. z *ℤ b) oo) ∙ ap (λ z. lt_z (neg_ℤ o *ℤ b) z) (ev ∙ vp ∙ ap (λ z. z *ℤ a) pp)
    ∙ sym (ratios_compared d e o a p b hd he ha.positive hb.positive)

pub fits_within : (z z' : ℤ) → z' ≡ z → unsigned_abs z < 2 ^ 63 → unsigned_abs z' < 2 ^ 127
fits_within z z' e h = rw e (under (unsigned_abs z) h)
  where
    under : (n : ℕ) → n < 2 ^ 63 → n < 2 ^ 127
    under n h = omega arith

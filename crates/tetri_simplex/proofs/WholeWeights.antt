-- Weights brought to whole numbers.
use Rattle.std.proofs.Common.{◌≡◌, ℕ, ◌+◌, ◌*◌, ◌/◌, ◌^◌, ◌<◌, refl, sym, ap, ◌∙◌, subst, arith, List, [], ◌∷◌, Ok, Err, Bool, true, false, cond, eqb}
use Rattle.std.specs.Prelude.{nat_lt, unsigned_abs}
use Rattle.tetri_algebra.specs.Range.{is_within}
use Prim.Native.Nat.{zero, suc, ◌∣◌}
use Rattle.std.proofs.Math.Nat.{dvd_trans, dvd-mul_left, dvd-mul_right, div-mul_cancel, mul-div_cancel', mul_assoc, dvd_refl}
use Rattle.std.proofs.lemmas.Bool.{eqb-true}
use Rattle.std.proofs.lemmas.Int.{ints}
use lib.IntN.{ℤ, pos, ◌+ℤ◌, ◌-ℤ◌, ◌*ℤ◌}
use Rattle.tetri_algebra.specs.Coprime.{IsGcd-gcd_of}
use Rattle.tetri_algebra.specs.Gcd.{gcd_of, lcm_of}
use Rattle.tetri_algebra.specs.IntegerRing.{ℤ_ring}
use Rattle.tetri_algebra.specs.Rational.{fraction-one, ℚ, whole_ℚ, fraction, fraction_self, same_fraction}
use Rattle.tetri_algebra.specs.RationalRing.{ℚ_ring, zero_ℚ, mul-fraction, positive_product, ◌+ℚ◌, ◌*ℚ◌, whole_ℚ-+ℤ, whole_ℚ-*ℤ}
use Rattle.tetri_algebra.specs.RingSolver.{var, num, nil, minus, ring, ◌⊕◌, ◌⊗◌}
use Rattle.tetri_ip.specs.Points.{left_side, terms_of, right_of}
use Rattle.tetri_ip.proofs.IntegerProgramLaws.{left_sum}
use Rattle.tetri_ip.specs.Weighed.{right_sum}
use Rattle.tetri_ip.specs.declared.programs.Row.{Row}
use Rattle.tetri_ip.specs.declared.programs.Weight.{Weight}
use Rattle.tetri_num.specs.declared.places.Place.{Place}
use Rattle.tetri_simplex.proofs.Corners.{slack_sum}
use Rattle.tetri_dictionary.proofs.DictionaryLaws.{then_ok_pair, NotBelow}
use Rattle.tetri_simplex.specs.Ends.{common_denominator, whole_weights, with_weight}
use Rattle.tetri_base.specs.ResultSteps.{then_ok}

-- ---- the least common multiple
lcm_right : (a b : ℕ) → b ∣ lcm_of a b
lcm_right a b = dvd-mul_left b (a / gcd_of a b)

lcm_left : (a b : ℕ) → a ∣ lcm_of a b
lcm_left a b =
    let g = gcd_of a b in
    let i = IsGcd-gcd_of a b in
    let e : a * (b / g) ≡ (a / g) * b =
    ap (λ z. z * (b / g)) (sym (div-mul_cancel g i.0)) ∙ mul_assoc (a / g) g (b / g) ∙ ap (λ z. (a / g) * z) (mul-div_cancel' g i.1) in
    subst (λ z. a ∣ z) e (dvd-mul_right a (b / g))

lcm_above : (a b : ℕ) → 0 < a → 0 < b → 0 < lcm_of a b
lcm_above a b h k =
    let g = gcd_of a b in
    let i = IsGcd-gcd_of a b in
    positive_product (a / g) b (quotient_above g (a / g) a (div-mul_cancel g i.0) h) k
  where
    quotient_above : (g k a : ℕ) → k * g ≡ a → 0 < a → 0 < k
    quotient_above g zero a e h = absurd (omega arith)
    quotient_above g (suc k) a e h = omega arith

abbrev pub AreMultiple : ℕ → List ℚ → Type 0
AreMultiple q [] = Unit {0}
AreMultiple q (w ∷ ws) = (w.den ∣ q) × AreMultiple q ws

pub common_denominator_is : (i a q : ℕ) (ws : List ℚ) → common_denominator i a ws ≡ Ok q → (a ∣ q) × (AreMultiple q ws × (0 < a → 0 < q))
common_denominator_is i a q [] e =
    let s : a ≡ q = cc in
    (subst (λ z. a ∣ z) s (dvd_refl a), (tt, λ h. subst (λ z. 0 < z) s h))
common_denominator_is i a q (w ∷ ws) e = by_test (nat_lt (lcm_of a w.den) (2 ^ 127)) (common_denominator_is (i + 1) (lcm_of a w.den) q ws) _ e
  where
    by_test : (t : Bool) → (common_denominator (i + 1) (lcm_of a w.den) ws ≡ Ok q → (lcm_of a w.den ∣ q) × (AreMultiple q ws × (0 < lcm_of a w.den → 0 < q))) →
        (e : Place) → cond t (common_denominator (i + 1) (lcm_of a w.den) ws) (Err e) ≡ Ok q → (a ∣ q) × (AreMultiple q (w ∷ ws) × (0 < a → 0 < q))
    by_test true ih e f =
        let o = ih f in
        (dvd_trans a (lcm_left a w.den) o.0, ((dvd_trans w.den (lcm_right a w.den) o.0, o.1.0), λ h. o.1.1 (lcm_above a w.den h w.positive)))
    by_test false ih e f = cc

-- ---- one weight
pub whole_is : (q : ℕ) (w : ℚ) → w.den ∣ q → whole_ℚ (w.num *ℤ pos (q / w.den)) ≡ ◌*ℚ◌ (whole_ℚ (pos q)) w
whole_is q w h =
    let n = w.num in let d = w.den in let k = q / d in
    let one : 0 < 1 = omega arith in
    let e : pos k *ℤ pos d ≡ pos q = ap pos (div-mul_cancel d h) in
    sym (fraction-one (n *ℤ pos k))
    ∙ same_fraction (n *ℤ pos k) 1 (pos q *ℤ n) (1 * d) one (positive_product 1 d one w.positive)
    (ring ℤ_ring (n ∷ pos k ∷ pos d ∷ []) ((var 0 ⊗ var 1) ⊗ (num (pos 1) ⊗ var 2)) ((var 1 ⊗ var 2) ⊗ var 0 ⊗ num (pos 1)) refl
    ∙ ap (λ z. (z *ℤ n) *ℤ pos 1) e)
    ∙ sym (mul-fraction (pos q) 1 n d one w.positive)
    ∙ ap (λ z. ◌*ℚ◌ z (fraction n d)) (fraction-one (pos q))
    ∙ ap (λ z. ◌*ℚ◌ (whole_ℚ (pos q)) z) (fraction_self w)

-- ---- the sum over the rows
-- the slack of row i at a point
abbrev pub slack_of : List Row → List ℤ → ℕ → ℤ
slack_of rows x i = right_of rows i -ℤ left_side (terms_of rows i) x

abbrev pub sum_at : List Row → List ℤ → ℕ → List ℚ → ℚ
sum_at rows x i [] = zero_ℚ
sum_at rows x i (w ∷ ws) = ◌+ℚ◌ (◌*ℚ◌ w (whole_ℚ (slack_of rows x i))) (sum_at rows x (i + 1) ws)

abbrev pub AreNotBelow : List ℚ → Type 0
AreNotBelow [] = Unit {0}
AreNotBelow (w ∷ ws) = NotBelow w × AreNotBelow ws

slack_sum_more : (rows : List Row) (w : Weight) (ws : List Weight) (x : List ℤ) → slack_sum rows (w ∷ ws) x ≡ w.by *ℤ slack_of rows x w.row +ℤ slack_sum rows ws x
slack_sum_more rows w ws x =
    ring ℤ_ring (w.by ∷ right_of rows w.row ∷ left_side (terms_of rows w.row) x ∷ right_sum rows ws ∷ left_sum rows ws x ∷ [])
    ((var 0 ⊗ var 1 ⊕ var 3) ⊕ minus (var 0 ⊗ var 2 ⊕ var 4)) (var 0 ⊗ (var 1 ⊕ minus (var 2)) ⊕ (var 3 ⊕ minus (var 4))) refl

with_weight_sum : (rows : List Row) (x : List ℤ) (i : ℕ) (z : ℤ) (ws : List Weight) → slack_sum rows (with_weight i z ws) x ≡ z *ℤ slack_of rows x i +ℤ slack_sum rows ws x
with_weight_sum rows x i z ws = by_test (eqb (unsigned_abs z) 0) refl
  where
    zero_is : (z : ℤ) → unsigned_abs z ≡ 0 → z ≡ pos 0
    zero_is z e = omega (arith, ints)

    by_test : (t : Bool) → eqb (unsigned_abs z) 0 ≡ t → slack_sum rows (cond t ws (record { row = i; by = z } ∷ ws)) x ≡ z *ℤ slack_of rows x i +ℤ slack_sum rows ws x
    by_test false e = slack_sum_more rows (record { row = i; by = z }) ws x
    by_test true e =
        ring ℤ_ring (slack_of rows x i ∷ (slack_sum rows ws x) ∷ []) (var 1) (num (pos 0) ⊗ var 0 ⊕ var 1) refl
        ∙ ap (λ y. y *ℤ slack_of rows x i +ℤ slack_sum rows ws x) (sym (zero_is z (eqb-true (unsigned_abs z) 0 e)))

pub whole_weights_sum : (rows : List Row) (x : List ℤ) (i q : ℕ) (ws : List ℚ) (ys : List Weight) → AreMultiple q ws → AreNotBelow ws → whole_weights i q ws ≡ Ok ys → whole_ℚ (slack_sum rows ys x) ≡ ◌*ℚ◌ (whole_ℚ (pos q)) (sum_at rows x i ws)
whole_weights_sum rows x i q [] ys m b e =
    let s : [] ≡ ys = cc in
    ap (λ z. whole_ℚ (slack_sum rows z x)) (sym s) ∙ ring ℚ_ring ((whole_ℚ (pos q)) ∷ []) nil (var 0 ⊗ nil) refl
whole_weights_sum rows x i q (w ∷ ws) ys m b e = by_test (is_within (w.num *ℤ pos (q / w.den))) (λ zs f. whole_weights_sum rows x (i + 1) q ws zs m.1 b.1 f) _ e
  where
    by_test : (t : Bool) → ((zs : List Weight) → whole_weights (i + 1) q ws ≡ Ok zs → whole_ℚ (slack_sum rows zs x) ≡ ◌*ℚ◌ (whole_ℚ (pos q)) (sum_at rows x (i + 1) ws)) →
        (p : Place) → cond t (then_ok (whole_weights (i + 1) q ws) (λ rest. Ok (with_weight i (w.num *ℤ pos (q / w.den)) rest))) (Err p) ≡ Ok ys → whole_ℚ (slack_sum rows ys x) ≡ ◌*ℚ◌ (whole_ℚ (pos q)) (sum_at rows x i (w ∷ ws))
    by_test false ih p f = cc
    by_test true ih p f =
        let z = w.num *ℤ pos (q / w.den) in
        let a = then_ok_pair (whole_weights (i + 1) q ws) _ ys f in
        let zs = a.0 in
        let s : with_weight i z zs ≡ ys = cc in
        let S = slack_of rows x i in
        ap (λ v. whole_ℚ (slack_sum rows v x)) (sym s)
        ∙ ap whole_ℚ (with_weight_sum rows x i z zs)
        ∙ whole_ℚ-+ℤ (z *ℤ S) (slack_sum rows zs x)
        ∙ ap (λ v. ◌+ℚ◌ v (whole_ℚ (slack_sum rows zs x))) (whole_ℚ-*ℤ z S ∙ ap (λ v. ◌*ℚ◌ v (whole_ℚ S)) (whole_is q w m.0))
        ∙ ap (λ v. ◌+ℚ◌ (◌*ℚ◌ (◌*ℚ◌ (whole_ℚ (pos q)) w) (whole_ℚ S)) v) (ih zs a.1.0)
        ∙ ring ℚ_ring (whole_ℚ (pos q) ∷ w ∷ whole_ℚ S ∷ sum_at rows x (i + 1) ws ∷ []) ((var 0 ⊗ var 1) ⊗ var 2 ⊕ var 0 ⊗ var 3) (var 0 ⊗ (var 1 ⊗ var 2 ⊕ var 3)) refl

-- Whole weights of weights that are not below 0 are not below 0, and each is of a row of the program.
use Rattle.std.proofs.Common.{◌≡◌, ℕ, ◌+◌, ◌<◌, ◌≤◌, ◌/◌, ◌^◌, refl, sym, ap, ◌∙◌, subst, arith, List, [], ◌∷◌, length, get_or, Ok, Err, Bool, true, false, cond, All}
use Rattle.std.specs.Prelude.{◌≤ℤ◌, ◌==◌, nat_lt, unsigned_abs}
use Rattle.std.proofs.lemmas.Bool.{false≢true}
use borrow.Author.Tests.{ltb-true}
use Prim.Native.Nat.{zero, suc}
use lib.IntN.{ℤ, pos, ◌*ℤ◌}
use Rattle.tetri_algebra.specs.Gcd.{lcm_of}
use Rattle.tetri_algebra.specs.Rational.{ℚ}
use Rattle.tetri_algebra.specs.Range.{IsWithin, is_within}
use Rattle.tetri_num.specs.declared.places.Kind.TheVariants as Kind
use Rattle.tetri_num.specs.declared.places.Place.{Place}
use Rattle.tetri_ip.specs.Weighed.{AreNotNegative, AreOfRows, WeightsAscend}
use Rattle.tetri_ip.specs.declared.programs.Program.{Program}
use Rattle.tetri_ip.specs.declared.programs.Weight.{Weight}
use Rattle.tetri_dictionary.proofs.DictionaryLaws.{then_ok_pair, times_not_below}
use Rattle.tetri_simplex.proofs.WholeWeights.{AreNotBelow}
use Rattle.tetri_simplex.specs.Ends.{common_denominator, weights_of, whole_weights, with_weight}
use Rattle.tetri_dictionary.specs.Steps.{place_at}
use Rattle.tetri_base.specs.ResultSteps.{then_ok}

-- not below 0, and of one of n rows
abbrev pub IsRowWeight : ℕ → Weight → Type 0
IsRowWeight n w = (pos 0 ≤ℤ w.by) × (w.row < n)

abbrev pub AreRowWeights : ℕ → List Weight → Type 0
AreRowWeights n [] = Unit {0}
AreRowWeights n (w ∷ ws) = IsRowWeight n w × AreRowWeights n ws

pub are_row_weights : (n i q : ℕ) (ws : List ℚ) (ys : List Weight) → AreNotBelow ws → i + length ws ≡ n → whole_weights i q ws ≡ Ok ys → AreRowWeights n ys
are_row_weights n i q [] ys b l e = let s : [] ≡ ys = cc in subst (AreRowWeights n) s tt
are_row_weights n i q (w ∷ ws) ys b l e = by_test (is_within (w.num *ℤ pos (q / w.den))) (λ zs f. are_row_weights n (i + 1) q ws zs b.1 (later i n (length ws) l) f) _ e
  where
    later : (i n k : ℕ) → i + suc k ≡ n → (i + 1) + k ≡ n
    later i n k h = omega arith

    below : (i n k : ℕ) → i + suc k ≡ n → i < n
    below i n k h = omega arith

    with_one : (t : Bool) (z : ℤ) (zs : List Weight) → IsRowWeight n (record { row = i; by = z }) → AreRowWeights n zs → AreRowWeights n (cond t zs (record { row = i; by = z } ∷ zs))
    with_one true z zs h k = k
    with_one false z zs h k = (h, k)

    by_test : (t : Bool) → ((zs : List Weight) → whole_weights (i + 1) q ws ≡ Ok zs → AreRowWeights n zs) →
        (p : Place) → cond t (then_ok (whole_weights (i + 1) q ws) (λ rest. Ok (with_weight i (w.num *ℤ pos (q / w.den)) rest))) (Err p) ≡ Ok ys → AreRowWeights n ys
    by_test false ih p f = cc
    by_test true ih p f =
        let z = w.num *ℤ pos (q / w.den) in
        let a = then_ok_pair (whole_weights (i + 1) q ws) _ ys f in
        let s : with_weight i z a.0 ≡ ys = cc in
        subst (AreRowWeights n) s (with_one (unsigned_abs z == 0) z a.0 (times_not_below w.num (q / w.den) b.0.sign, below i n (length ws) l) (ih a.0 a.1.0))

weight_at : (n : ℕ) (ws : List Weight) (k : ℕ) (d : Weight) → AreRowWeights n ws → k < length ws → IsRowWeight n (get_or ws k d)
weight_at n [] k d h l = absurd (omega arith)
weight_at n (w ∷ ws) zero d h l = h.0
weight_at n (w ∷ ws) (suc k) d h l = weight_at n ws k d h.1 (omega arith)

pub not_negative : (n : ℕ) (ws : List Weight) → AreRowWeights n ws → AreNotNegative ws
not_negative n ws h = λ k d l. (weight_at n ws k d h l).0

pub of_rows : (p : Program) (ws : List Weight) → AreRowWeights (length p.rows.items) ws → AreOfRows p ws
of_rows p ws h = λ k d l. (weight_at (length p.rows.items) ws k d h l).1

-- ---- from row i on ascending, none 0 and in range
abbrev pub AreProper : ℕ → List Weight → Type 0
AreProper i [] = Unit {0}
AreProper i (w ∷ ws) = ((i ≤ w.row) × (w.by ≡ pos 0 → ⊥) × IsWithin w.by) × AreProper (suc w.row) ws

proper_earlier : (i : ℕ) (ws : List Weight) → AreProper (i + 1) ws → AreProper i ws
proper_earlier i [] h = tt
proper_earlier i (w ∷ ws) h = ((earlier i w.row h.0.0, h.0.1, h.0.2), h.1)
  where
    earlier : (i k : ℕ) → i + 1 ≤ k → i ≤ k
    earlier i k l = omega arith

pub are_proper : (i q : ℕ) (ws : List ℚ) (ys : List Weight) → whole_weights i q ws ≡ Ok ys → AreProper i ys
are_proper i q [] ys e = let s : [] ≡ ys = cc in subst (AreProper i) s tt
are_proper i q (w ∷ ws) ys e = by_test (is_within (w.num *ℤ pos (q / w.den))) refl (λ zs f. are_proper (i + 1) q ws zs f) _ e
  where
    not_zero : (z : ℤ) → (unsigned_abs z == 0) ≡ false → z ≡ pos 0 → ⊥
    not_zero z f e = false≢true (sym f ∙ ap (λ y. unsigned_abs y == 0) e)

    itself : (i : ℕ) → i ≤ i
    itself i = omega arith

    next : (i : ℕ) → i + 1 ≡ suc i
    next i = omega arith

    with_one : (t : Bool) (z : ℤ) (zs : List Weight) → (unsigned_abs z == 0) ≡ t → IsWithin z → AreProper (i + 1) zs → AreProper i (cond t zs (record { row = i; by = z } ∷ zs))
    with_one true z zs f k m = proper_earlier i zs m
    with_one false z zs f k m = ((itself i, not_zero z f, k), subst (λ n. AreProper n zs) (next i) m)

    by_test : (t : Bool) → is_within (w.num *ℤ pos (q / w.den)) ≡ t → ((zs : List Weight) → whole_weights (i + 1) q ws ≡ Ok zs → AreProper (i + 1) zs) →
        (p : Place) → cond t (then_ok (whole_weights (i + 1) q ws) (λ rest. Ok (with_weight i (w.num *ℤ pos (q / w.den)) rest))) (Err p) ≡ Ok ys → AreProper i ys
    by_test false g ih p f = cc
    by_test true g ih p f =
        let z = w.num *ℤ pos (q / w.den) in
        let a = then_ok_pair (whole_weights (i + 1) q ws) _ ys f in
        let s : with_weight i z a.0 ≡ ys = cc in
        subst (AreProper i) s (with_one (unsigned_abs z == 0) z a.0 refl (ltb-true _ _ g) (ih a.0 a.1.0))

proper_at : (i : ℕ) (ws : List Weight) (k : ℕ) (d : Weight) → AreProper i ws → k < length ws → (i ≤ (get_or ws k d).row) × ((get_or ws k d).by ≡ pos 0 → ⊥) × IsWithin (get_or ws k d).by
proper_at i [] k d h l = absurd (omega arith)
proper_at i (w ∷ ws) zero d h l = h.0
proper_at i (w ∷ ws) (suc k) d h l = let g = proper_at (suc w.row) ws k d h.1 (omega arith) in (later i w.row (get_or ws k d).row h.0.0 g.0, g.1, g.2)
  where
    later : (i j k : ℕ) → i ≤ j → suc j ≤ k → i ≤ k
    later i j k a b = omega arith

pub ascend : (i : ℕ) (ws : List Weight) → AreProper i ws → WeightsAscend ws
ascend i [] h k m l g = absurd (omega arith)
ascend i (w ∷ ws) h zero zero l g = absurd (omega arith)
ascend i (w ∷ ws) h zero (suc m) l g = (proper_at (suc w.row) ws m (record { row = 0; by = pos 0 }) h.1 (omega arith)).0
ascend i (w ∷ ws) h (suc k) zero l g = absurd (omega arith)
ascend i (w ∷ ws) h (suc k) (suc m) l g = ascend (suc w.row) ws h.1 k m (omega arith) (omega arith)

pub nonzero : (i : ℕ) (ws : List Weight) → AreProper i ws → All (λ (w : Weight). w.by ≡ pos 0 → ⊥) ws
nonzero i ws h = λ k d l. (proper_at i ws k d h l).1

pub in_range : (i : ℕ) (ws : List Weight) → AreProper i ws → All (λ (w : Weight). IsWithin w.by) ws
in_range i ws h = λ k d l. (proper_at i ws k d h l).2

-- ---- the common denominator is in range
pub denominator_within : (i q : ℕ) (ws : List ℚ) (m : ℕ) → common_denominator i q ws ≡ Ok m → q < 2 ^ 127 → m < 2 ^ 127
denominator_within i q [] m e h = let s : q ≡ m = cc in subst (λ (n : ℕ). n < 2 ^ 127) s h
denominator_within i q (w ∷ ws) m e h = by_test (λ f g. denominator_within (i + 1) (lcm_of q w.den) ws m f g) (nat_lt (lcm_of q w.den) (2 ^ 127)) refl e
  where
    by_test : (common_denominator (i + 1) (lcm_of q w.den) ws ≡ Ok m → lcm_of q w.den < 2 ^ 127 → m < 2 ^ 127) →
        (t : Bool) → nat_lt (lcm_of q w.den) (2 ^ 127) ≡ t → cond t (common_denominator (i + 1) (lcm_of q w.den) ws) (Err (place_at Kind.Lcm i 0)) ≡ Ok m → m < 2 ^ 127
    by_test ih true g f = ih f (ltb-true _ _ g)
    by_test ih false g f = cc

weights_count : {A : Type 0} → (vs : List ℕ) (xs : List ℚ) (own v : ℕ) (rs : List A) → length (weights_of vs xs own v rs) ≡ length rs
weights_count vs xs own v [] = refl
weights_count vs xs own v (r ∷ rs) = ap suc (weights_count vs xs own (v + 1) rs)

pub weights_from_zero : {A : Type 0} → (vs : List ℕ) (xs : List ℚ) (own v : ℕ) (rs : List A) → 0 + length (weights_of vs xs own v rs) ≡ length rs
weights_from_zero vs xs own v rs = let e = weights_count vs xs own v rs in omega arith

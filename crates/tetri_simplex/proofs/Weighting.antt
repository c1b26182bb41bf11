-- The loops that form the weights.
use Rattle.std.proofs.Common.{◌≡◌, ℕ, ◌+◌, ◌*◌, ◌/◌, ◌^◌, ◌<◌, ◌≤◌, refl, sym, ap, ◌∙◌, subst, arith, List, [], ◌∷◌, ◌++◌, append_assoc, length, get_or, drop, Bool, true, false, cond, eqb, nat_lt, Some, None, Result, Ok, Err, drop-cons}
use Rattle.std.specs.Prelude.{unsigned_abs, int_div, ◌<ℤ◌}
use Prim.Native.Nat.{zero, suc}
use Rattle.std.proofs.lemmas.Bool.{eqb-true, eq-eqb}
use Rattle.std.proofs.lemmas.Bool.Decides.{nat_tests}
use Rattle.std.proofs.lemmas.List.{length-map}
use Rattle.std.proofs.lemmas.Int.{ints}
use lib.IntN.{ℤ, pos, negsuc, ◌*ℤ◌}
use Rattle.std.proofs.Math.Nat.{div-mul_cancel}
use Rattle.tetri_algebra.specs.Gcd.{gcd_of, lcm_of}
use Rattle.tetri_algebra.specs.Coprime.{IsGcd-gcd_of}
use Rattle.tetri_algebra.specs.Integers.{abs_positive}
use Rattle.tetri_algebra.specs.Rational.{ℚ, whole_ℚ}
use Rattle.tetri_algebra.specs.RationalRing.{zero_ℚ, neg_ℚ, positive_product}
use Rattle.tetri_num.specs.declared.fractions.Frac.{Frac}
use Rattle.tetri_num.specs.declared.places.Kind.TheVariants as Kind
use Rattle.tetri_num.specs.declared.places.Place.{Place}
use Rattle.tetri_algebra.specs.Range.{IsWithin, is_within}
use Rattle.tetri_num.specs.Frac.{value}
use Rattle.tetri_num.proofs.FractionLaws.{den-value, num-value, quotient_within}
use borrow.Author.Tests.{ltb-true}
use mir.Val.{to_z, of_z}
use mir.Syntax.{w128}
use Rattle.tetri_dictionary.proofs.DictionaryLaws.{number_read, onto, drop_past, value_at_place, map_push}
use Rattle.tetri_ip.specs.declared.programs.Weight.{Weight}
use Rattle.tetri_ip.specs.Forming.{within}
use Rattle.tetri_dictionary.specs.Fractions.{values}
use Rattle.tetri_dictionary.specs.Steps.{place_at}
use Rattle.tetri_base.specs.ResultSteps.{then_ok}
use Rattle.tetri_simplex.specs.Ends.{coefficient_of, weights_of, common_denominator, with_weight, whole_weights}

more_is : (k : ℕ) → suc k ≡ k + 1
more_is k = omega arith

lt_test : (a b : ℕ) → a < b → nat_lt a b ≡ true
lt_test a b h = grind (arith, nat_tests)

not_lt_test : (a b : ℕ) → (a < b → ⊥) → nat_lt a b ≡ false
not_lt_test a b h = grind (arith, nat_tests)

-- ---- a coefficient by its variable
coefficient_none : (nb : List ℕ) (v : ℕ) → coefficient_of nb [] v ≡ zero_ℚ
coefficient_none [] v = refl
coefficient_none (b ∷ nb) v = refl

pub coefficient_found : (nb : List ℕ) (cs : List ℚ) (v j : ℕ) → j < length nb → get_or nb j 0 ≡ v → coefficient_of (drop j nb) (drop j cs) v ≡ get_or cs j zero_ℚ
coefficient_found [] cs v j h e = absurd (omega arith)
coefficient_found (b ∷ nb) [] v zero h e = refl
coefficient_found (b ∷ nb) (c ∷ cs) v zero h e = ap (λ t. cond t c (coefficient_of nb cs v)) (eq-eqb b v e)
coefficient_found (b ∷ nb) [] v (suc j) h e = coefficient_none (drop j nb) v
coefficient_found (b ∷ nb) (c ∷ cs) v (suc j) h e = coefficient_found nb cs v j (omega arith) e

coefficient_next : (nb : List ℕ) (cs : List ℚ) (v j : ℕ) → j < length nb → (get_or nb j 0 ≡ v → ⊥) → coefficient_of (drop (suc j) nb) (drop (suc j) cs) v ≡ coefficient_of (drop j nb) (drop j cs) v
coefficient_next [] cs v j h d = absurd (omega arith)
coefficient_next (b ∷ nb) [] v zero h d = coefficient_none nb v
coefficient_next (b ∷ nb) (c ∷ cs) v zero h d = by_test (eqb b v) refl
  where
    by_test : (t : Bool) → eqb b v ≡ t → coefficient_of nb cs v ≡ cond t c (coefficient_of nb cs v)
    by_test true e = absurd (d (eqb-true b v e))
    by_test false e = refl
coefficient_next (b ∷ nb) [] v (suc j) h d = coefficient_none (drop (suc j) nb) v ∙ sym (coefficient_none (drop j nb) v)
coefficient_next (b ∷ nb) (c ∷ cs) v (suc j) h d = coefficient_next nb cs v j (omega arith) d

pub coefficient_other : (nb : List ℕ) (cs : List ℚ) (v j : ℕ) → j < length nb → (get_or nb j 0 ≡ v → ⊥) → coefficient_of (drop (j + 1) nb) (drop (j + 1) cs) v ≡ coefficient_of (drop j nb) (drop j cs) v
coefficient_other nb cs v j h d = ap (λ k. coefficient_of (drop k nb) (drop k cs) v) (sym (more_is j)) ∙ coefficient_next nb cs v j h d

pub coefficient_done : (nb : List ℕ) (cs : List ℚ) (v j : ℕ) → length nb ≤ j → coefficient_of (drop j nb) (drop j cs) v ≡ zero_ℚ
coefficient_done nb cs v j h = ap (λ us. coefficient_of us (drop j cs) v) (drop_past j nb h)

-- ---- the weights of a row
drop_some : {A : Type 0} → (i : ℕ) (xs : List A) → i < length xs → (y : A) × (drop i xs ≡ y ∷ drop (i + 1) xs)
drop_some zero [] h = absurd (omega arith)
drop_some zero (x ∷ xs) h = (x, refl)
drop_some (suc i) [] h = absurd (omega arith)
drop_some (suc i) (x ∷ xs) h =
    let o = drop_some i xs (omega arith) in
    let s : suc i ≡ i + 1 = omega arith in
    (o.0, o.1 ∙ ap (λ k. o.0 ∷ drop k (x ∷ xs)) (ap suc (sym s) ∙ more_is (suc i)))

abbrev pub weight_at : List ℕ → List ℚ → ℕ → ℕ → ℚ
weight_at nb cs own v = cond (eqb own v) (whole_ℚ (pos 1)) (neg_ℚ (coefficient_of nb cs v))

pub weights_next : {A : Type 0} → (nb : List ℕ) (cs : List ℚ) (own first i : ℕ) (rows : List A) (made done : List Frac) (w : Frac) → i < length rows → made ≡ done ++ (w ∷ []) → value w ≡ weight_at nb cs own (first + i) →
    values made ++ weights_of nb cs own (first + (i + 1)) (drop (i + 1) rows) ≡ values done ++ weights_of nb cs own (first + i) (drop i rows)
weights_next nb cs own first i rows made done w h me we =
    let y = drop_some i rows h in
    let s : first + i + 1 ≡ first + (i + 1) = omega arith in
    let rest = weights_of nb cs own (first + (i + 1)) (drop (i + 1) rows) in
    ap (λ zs. zs ++ rest) (ap values me ∙ map_push value done w)
    ∙ append_assoc (values done) (value w ∷ []) rest
    ∙ ap (λ z. values done ++ (z ∷ rest)) we
    ∙ ap (λ k. values done ++ (weight_at nb cs own (first + i) ∷ weights_of nb cs own k (drop (i + 1) rows))) (sym s)
    ∙ ap (λ us. values done ++ weights_of nb cs own (first + i) us) (sym y.1)

pub own_weight : (nb : List ℕ) (cs : List ℚ) (own v : ℕ) (w : Frac) → own ≡ v → value w ≡ whole_ℚ (pos 1) → value w ≡ weight_at nb cs own v
own_weight nb cs own v w e we = we ∙ ap (λ t. cond t (whole_ℚ (pos 1)) (neg_ℚ (coefficient_of nb cs v))) (sym (eq-eqb own v e))

pub other_weight : (nb : List ℕ) (cs : List ℚ) (own v : ℕ) (w c : Frac) → (own ≡ v → ⊥) → value c ≡ coefficient_of nb cs v → value w ≡ neg_ℚ (value c) → value w ≡ weight_at nb cs own v
other_weight nb cs own v w c d ce we = we ∙ ap neg_ℚ ce ∙ by_test (eqb own v) refl
  where
    by_test : (t : Bool) → eqb own v ≡ t → neg_ℚ (coefficient_of nb cs v) ≡ cond t (whole_ℚ (pos 1)) (neg_ℚ (coefficient_of nb cs v))
    by_test true e = absurd (d (eqb-true own v e))
    by_test false e = refl

append_nil : {B : Type 0} → (ys : List B) → ys ++ [] ≡ ys
append_nil [] = refl
append_nil (y ∷ ys) = ap (λ zs. y ∷ zs) (append_nil ys)

pub weights_done : {A : Type 0} → (nb : List ℕ) (cs : List ℚ) (own v i : ℕ) (rows : List A) (done : List Frac) → length rows ≤ i → values done ++ weights_of nb cs own v (drop i rows) ≡ values done
weights_done nb cs own v i rows done h = ap (λ us. values done ++ weights_of nb cs own v us) (drop_past i rows h) ∙ append_nil (values done)

pub weights_init : {A : Type 0} → (nb : List ℕ) (cs : List ℚ) (own first : ℕ) (rows : List A) (done : List Frac) → done ≡ [] → values done ++ weights_of nb cs own (first + 0) (drop 0 rows) ≡ weights_of nb cs own first rows
weights_init nb cs own first rows done e =
    let s : first + 0 ≡ first = omega arith in
    ap (λ zs. values zs ++ weights_of nb cs own (first + 0) rows) e ∙ ap (λ k. weights_of nb cs own k rows) s

-- ---- the common denominator
den_is : (x : Frac) → (value x).den ≡ unsigned_abs x.den
den_is x = ap unsigned_abs (den-value x)

denominator_more : (ws : List Frac) (i q : ℕ) (x : Frac) → i < length ws → x ≡ get_or ws i x →
    common_denominator i q (drop i (values ws))
    ≡ cond (nat_lt (lcm_of q (value x).den) (2 ^ 127)) (common_denominator (i + 1) (lcm_of q (value x).den) (drop (i + 1) (values ws))) (Err (place_at Kind.Lcm i 0))
denominator_more ws i q x h e =
    let l : i < length (values ws) = subst (λ n. i < n) (sym (length-map ws value)) h in
    ap (common_denominator i q) (drop-cons (values ws) i zero_ℚ l)
    ∙ ap (λ (w : ℚ). cond (nat_lt (lcm_of q w.den) (2 ^ 127)) (common_denominator (i + 1) (lcm_of q w.den) (drop (suc i) (values ws))) (Err (place_at Kind.Lcm i 0))) (value_at_place ws i x h e)
    ∙ ap (λ k. cond (nat_lt (lcm_of q (value x).den) (2 ^ 127)) (common_denominator (i + 1) (lcm_of q (value x).den) (drop k (values ws))) (Err (place_at Kind.Lcm i 0))) (more_is i)

pub denominator_next : (ws : List Frac) (i q m : ℕ) (x : Frac) → i < length ws → x ≡ get_or ws i x → m ≡ lcm_of q (unsigned_abs x.den) → m < 2 ^ 127 →
    common_denominator (i + 1) m (drop (i + 1) (values ws)) ≡ common_denominator i q (drop i (values ws))
denominator_next ws i q m x h e me f =
    let d : lcm_of q (value x).den ≡ m = ap (lcm_of q) (den_is x) ∙ sym me in
    sym (denominator_more ws i q x h e
    ∙ ap (λ k. cond (nat_lt k (2 ^ 127)) (common_denominator (i + 1) k (drop (i + 1) (values ws))) (Err (place_at Kind.Lcm i 0))) d
    ∙ ap (λ t. cond t (common_denominator (i + 1) m (drop (i + 1) (values ws))) (Err (place_at Kind.Lcm i 0))) (lt_test m (2 ^ 127) f))

pub denominator_stop : (ws : List Frac) (i q : ℕ) (x : Frac) → i < length ws → x ≡ get_or ws i x → (lcm_of q (unsigned_abs x.den) < 2 ^ 127 → ⊥) → common_denominator i q (drop i (values ws)) ≡ Err (place_at Kind.Lcm i 0)
denominator_stop ws i q x h e f =
    let d = lcm_of q (value x).den in
    denominator_more ws i q x h e
    ∙ ap (λ t. cond t (common_denominator (i + 1) d (drop (i + 1) (values ws))) (Err (place_at Kind.Lcm i 0)))
    (not_lt_test d (2 ^ 127) (λ l. f (subst (λ k. lcm_of q k < 2 ^ 127) (den_is x) l)))

pub denominator_done : (ws : List Frac) (i q : ℕ) → length ws ≤ i → common_denominator i q (drop i (values ws)) ≡ Ok q
denominator_done ws i q h = ap (common_denominator i q) (drop_past i (values ws) (subst (λ n. n ≤ i) (sym (length-map ws value)) h))

-- ---- whole weights
abbrev pub whole_of : ℕ → Frac → ℤ
whole_of q x = x.num *ℤ pos (q / unsigned_abs x.den)

whole_more : (ws : List Frac) (i q : ℕ) (x : Frac) → i < length ws → x ≡ get_or ws i x →
    whole_weights i q (drop i (values ws))
    ≡ cond (is_within (whole_of q x)) (then_ok (whole_weights (i + 1) q (drop (i + 1) (values ws))) (λ rest. Ok (with_weight i (whole_of q x) rest))) (Err (place_at Kind.Lcm i 0))
whole_more ws i q x h e =
    let l : i < length (values ws) = subst (λ n. i < n) (sym (length-map ws value)) h in
    let f : ℤ → ℕ → Result (List Weight) Place =
    λ z k. cond (is_within z) (then_ok (whole_weights (i + 1) q (drop k (values ws))) (λ rest. Ok (with_weight i z rest))) (Err (place_at Kind.Lcm i 0)) in
    ap (whole_weights i q) (drop-cons (values ws) i zero_ℚ l)
    ∙ ap (λ (w : ℚ). f (w.num *ℤ pos (q / w.den)) (suc i)) (value_at_place ws i x h e)
    ∙ ap (λ n. f (n *ℤ pos (q / (value x).den)) (suc i)) (num-value x)
    ∙ ap (λ d. f (x.num *ℤ pos (q / d)) (suc i)) (den_is x)
    ∙ ap (λ k. f (whole_of q x) k) (more_is i)

pub whole_stop : (ws : List Frac) (i q : ℕ) (x : Frac) (z : ℤ) (done : List Weight) → i < length ws → x ≡ get_or ws i x → z ≡ whole_of q x → within z ≡ None → onto done (whole_weights i q (drop i (values ws))) ≡ Err (place_at Kind.Lcm i 0)
whole_stop ws i q x z done h e ze f =
    ap (onto done) (whole_more ws i q x h e
    ∙ ap (λ t. cond t (then_ok (whole_weights (i + 1) q (drop (i + 1) (values ws))) (λ rest. Ok (with_weight i (whole_of q x) rest))) (Err (place_at Kind.Lcm i 0))) (sym (ap is_within ze) ∙ by_test (is_within z) refl f))
  where
    by_test : (t : Bool) → is_within z ≡ t → cond t (Some z) None ≡ None → is_within z ≡ false
    by_test true g k = cc
    by_test false g k = g

whole_within : (z x : ℤ) → within z ≡ Some x → (is_within z ≡ true) × (x ≡ z)
whole_within z x f = by_test (is_within z) refl f
  where
    by_test : (t : Bool) → is_within z ≡ t → cond t (Some z) None ≡ Some x → (is_within z ≡ true) × (x ≡ z)
    by_test true g k = (g, cc)
    by_test false g k = cc

whole_one : (ws : List Frac) (i q : ℕ) (x : Frac) (z y : ℤ) → i < length ws → x ≡ get_or ws i x → z ≡ whole_of q x → within z ≡ Some y →
    whole_weights i q (drop i (values ws)) ≡ then_ok (whole_weights (i + 1) q (drop (i + 1) (values ws))) (λ rest. Ok (with_weight i y rest))
whole_one ws i q x z y h e ze f =
    let w = whole_within z y f in
    whole_more ws i q x h e
    ∙ ap (λ t. cond t (then_ok (whole_weights (i + 1) q (drop (i + 1) (values ws))) (λ rest. Ok (with_weight i (whole_of q x) rest))) (Err (place_at Kind.Lcm i 0))) (sym (ap is_within ze) ∙ w.0)
    ∙ ap (λ u. then_ok (whole_weights (i + 1) q (drop (i + 1) (values ws))) (λ rest. Ok (with_weight i u rest))) (sym ze ∙ sym w.1)

onto_weight : (i : ℕ) (y : ℤ) (t : Bool) (done : List Weight) (r : Result (List Weight) Place) → eqb (unsigned_abs y) 0 ≡ t →
    onto done (then_ok r (λ rest. Ok (with_weight i y rest))) ≡ onto (cond t done (done ++ (record { row = i; by = y } ∷ []))) r
onto_weight i y true done (Ok rest) e = ap (λ t. Ok (done ++ cond t rest (record { row = i; by = y } ∷ rest))) e
onto_weight i y false done (Ok rest) e =
    ap (λ t. Ok (done ++ cond t rest (record { row = i; by = y } ∷ rest))) e ∙ ap Ok (sym (append_assoc done (record { row = i; by = y } ∷ []) rest))
onto_weight i y true done (Err p) e = refl
onto_weight i y false done (Err p) e = refl

pub whole_zero : (ws : List Frac) (i q : ℕ) (x : Frac) (z y : ℤ) (done : List Weight) → i < length ws → x ≡ get_or ws i x → z ≡ whole_of q x → within z ≡ Some y → y ≡ pos 0 →
    onto done (whole_weights (i + 1) q (drop (i + 1) (values ws))) ≡ onto done (whole_weights i q (drop i (values ws)))
whole_zero ws i q x z y done h e ze f ye =
    sym (ap (onto done) (whole_one ws i q x z y h e ze f) ∙ onto_weight i y true done (whole_weights (i + 1) q (drop (i + 1) (values ws))) (ap (λ u. eqb (unsigned_abs u) 0) ye))

pub whole_next : (ws : List Frac) (i q : ℕ) (x : Frac) (z y : ℤ) (done made : List Weight) → i < length ws → x ≡ get_or ws i x → z ≡ whole_of q x → within z ≡ Some y → (y ≡ pos 0 → ⊥) → made ≡ done ++ (record { row = i; by = y } ∷ []) →
    onto made (whole_weights (i + 1) q (drop (i + 1) (values ws))) ≡ onto done (whole_weights i q (drop i (values ws)))
whole_next ws i q x z y done made h e ze f ye me =
    ap (λ us. onto us (whole_weights (i + 1) q (drop (i + 1) (values ws)))) me
    ∙ sym (ap (onto done) (whole_one ws i q x z y h e ze f) ∙ onto_weight i y false done (whole_weights (i + 1) q (drop (i + 1) (values ws))) (not_zero y ye))
  where
    not_zero : (y : ℤ) → (y ≡ pos 0 → ⊥) → eqb (unsigned_abs y) 0 ≡ false
    not_zero y d = by_test (eqb (unsigned_abs y) 0) refl
      where
        abs_zero : (y : ℤ) → unsigned_abs y ≡ 0 → y ≡ pos 0
        abs_zero y e = omega (arith, ints)

        by_test : (t : Bool) → eqb (unsigned_abs y) 0 ≡ t → eqb (unsigned_abs y) 0 ≡ false
        by_test true e = absurd (d (abs_zero y (eqb-true (unsigned_abs y) 0 e)))
        by_test false e = e

pub whole_done : (ws : List Frac) (i q : ℕ) (done : List Weight) → length ws ≤ i → onto done (whole_weights i q (drop i (values ws))) ≡ Ok done
whole_done ws i q done h = ap (λ us. onto done (whole_weights i q us)) (drop_past i (values ws) (subst (λ n. n ≤ i) (sym (length-map ws value)) h)) ∙ ap Ok (append_nil done)

-- ---- the step of the common denominator, as the code reads it
quotient_above : (g k a : ℕ) → k * g ≡ a → 0 < a → 0 < k
quotient_above g zero a e h = absurd (omega arith)
quotient_above g (suc k) a e h = omega arith

lcm_above : (a b : ℕ) → 0 < a → 0 < b → 0 < lcm_of a b
lcm_above a b h k =
    let g = gcd_of a b in
    positive_product (a / g) b (quotient_above g (a / g) a (div-mul_cancel g (IsGcd-gcd_of a b).0) h) k

pub record IsStep (ws : List Frac) (i : ℕ) (q n : ℤ) : Type 0 where
  pub formed : common_denominator (i + 1) (unsigned_abs n) (drop (i + 1) (values ws)) ≡ common_denominator i (unsigned_abs q) (drop i (values ws))
  pub positive : pos 0 <ℤ n
  pub within : IsWithin n

pub lcm_step : (ws : List Frac) (i : ℕ) (q q' d' m n : ℤ) (x : Frac) → i < length ws → x ≡ get_or ws i x → pos 0 <ℤ q → q' ≡ q → d' ≡ x.den →
    m ≡ pos (lcm_of (unsigned_abs q') (unsigned_abs d')) → lcm_of (unsigned_abs q') (unsigned_abs d') < 2 ^ 127 → (IsWithin m → n ≡ m) → IsStep ws i q n
lcm_step ws i q q' d' m n x h e p qe de me l ne =
    let k = lcm_of (unsigned_abs q) (unsigned_abs x.den) in
    let ke : lcm_of (unsigned_abs q') (unsigned_abs d') ≡ k = ap (λ z. lcm_of (unsigned_abs z) (unsigned_abs d')) qe ∙ ap (λ z. lcm_of (unsigned_abs q) (unsigned_abs z)) de in
    let mk : m ≡ pos k = me ∙ ap pos ke in
    let w : k < 2 ^ 127 = subst (λ z. z < 2 ^ 127) ke l in
    let wm : IsWithin m = subst IsWithin (sym mk) w in
    let nk : n ≡ pos k = ne wm ∙ mk in
    record {
      formed = ap (λ z. common_denominator (i + 1) (unsigned_abs z) (drop (i + 1) (values ws))) nk ∙ denominator_next ws i (unsigned_abs q) k x h e refl w;
      positive = subst (λ z. pos 0 <ℤ z) (sym nk) (above k (lcm_above (unsigned_abs q) (unsigned_abs x.den) (abs_positive q p) (abs_positive x.den x.lowest.positive)));
      within = subst IsWithin (sym nk) w;
    }
  where
    above : (k : ℕ) → 0 < k → pos 0 <ℤ pos k
    above k h = omega (arith, ints)

pub lcm_stop : (ws : List Frac) (i : ℕ) (q q' d' : ℤ) (x : Frac) → i < length ws → x ≡ get_or ws i x → q' ≡ q → d' ≡ x.den → (lcm_of (unsigned_abs q') (unsigned_abs d') < 2 ^ 127 → ⊥) →
    common_denominator i (unsigned_abs q) (drop i (values ws)) ≡ Err (place_at Kind.Lcm i 0)
lcm_stop ws i q q' d' x h e qe de f =
    let ke : lcm_of (unsigned_abs q') (unsigned_abs d') ≡ lcm_of (unsigned_abs q) (unsigned_abs x.den) = ap (λ z. lcm_of (unsigned_abs z) (unsigned_abs d')) qe ∙ ap (λ z. lcm_of (unsigned_abs q) (unsigned_abs z)) de in
    denominator_stop ws i (unsigned_abs q) x h e (λ l. f (subst (λ z. z < 2 ^ 127) (sym ke) l))

-- ---- the product of a weight, as the code reads it
pub within_some : (z y : ℤ) → within z ≡ Some y → IsWithin y
within_some z y f =
    let w = whole_within z y f in
    subst IsWithin (sym w.1) (ltb-true _ _ w.0)

pub read_some : (z y : ℤ) → within z ≡ Some y → to_z w128 (of_z w128 y) ≡ y
read_some z y f = number_read y (within_some z y f)

quotient_read : (a b : ℤ) → IsWithin a → pos 0 <ℤ b → to_z w128 (of_z w128 (int_div a b)) ≡ int_div a b
quotient_read a (pos b) h k = number_read (int_div a (pos b)) (quotient_within a b h)
quotient_read a (negsuc b) h k = absurd (omega (arith, ints))

quotient_is : (a b : ℤ) → pos 0 <ℤ a → pos 0 <ℤ b → int_div a b ≡ pos (unsigned_abs a / unsigned_abs b)
quotient_is (pos a) (pos b) h k = refl
quotient_is (negsuc a) b h k = absurd (omega (arith, ints))
quotient_is (pos a) (negsuc b) h k = absurd (omega (arith, ints))

abbrev pub code_product : ℤ → Frac → ℤ
code_product q x = to_z w128 (of_z w128 x.num) *ℤ to_z w128 (of_z w128 (int_div (to_z w128 (of_z w128 q)) (to_z w128 (of_z w128 x.den))))

pub product_read : (q : ℤ) (x : Frac) → pos 0 <ℤ q → IsWithin q →
    code_product q x ≡ whole_of (unsigned_abs (to_z w128 (of_z w128 q))) x
product_read q x p w =
    let e = number_read q w in
    let d = to_z w128 (of_z w128 x.den) in
    ap (λ n. n *ℤ to_z w128 (of_z w128 (int_div (to_z w128 (of_z w128 q)) d))) (number_read x.num x.lowest.num_within)
    ∙ ap (λ z. x.num *ℤ to_z w128 (of_z w128 (int_div z d))) e
    ∙ ap (λ z. x.num *ℤ to_z w128 (of_z w128 (int_div q z))) (number_read x.den x.lowest.den_within)
    ∙ ap (λ z. x.num *ℤ z) (quotient_read q x.den w x.lowest.positive ∙ quotient_is q x.den p x.lowest.positive)
    ∙ ap (λ z. whole_of (unsigned_abs z) x) (sym e)

-- the code's test of 0
pub not_zero_read : (z y : ℤ) → within z ≡ Some y → (of_z w128 y ≡ 0 → ⊥) → y ≡ pos 0 → ⊥
not_zero_read z y f d e = d (ap (of_z w128) e)

pub zero_read : (z y : ℤ) → within z ≡ Some y → of_z w128 y ≡ 0 → y ≡ pos 0
zero_read z y f e = sym (read_some z y f) ∙ ap (to_z w128) e

-- The least ratio enters, and so the objective's coefficients stay 0 or less.
use Rattle.std.proofs.Common.{◌≡◌, ℕ, ◌+◌, ◌≤◌, refl, sym, ap, ◌∙◌, subst, arith, List, [], ◌∷◌, length, get_or, set, map, Option, Some, None, Ok, Bool, true, false, cond, not, ◌&&◌, eqb, inl, inr, ◌⊎◌, ⊎_elim}
use Rattle.std.specs.Prelude.{nat_lt}
use Prim.Native.Nat.{zero, suc}
use Rattle.std.proofs.lemmas.Bool.{eqb-true, eqb-false, false≢true}
use Rattle.std.proofs.lemmas.List.{get_or-set_same, get_or-set_other}
use Rattle.std.proofs.lemmas.Option.{same_Some}
use lib.IntN.{pos, negsuc}
use Rattle.tetri_num.specs.declared.places.Kind.TheVariants as Kind
use Rattle.tetri_algebra.specs.Rational.{ℚ, whole_ℚ}
use Rattle.tetri_algebra.specs.RationalReciprocal.{recip_ℚ}
use Rattle.tetri_algebra.specs.RationalRing.{ℚ_ring, zero_ℚ, ◌+ℚ◌, ◌*ℚ◌, neg_ℚ}
use Rattle.tetri_algebra.specs.RingSolver.{var, num, nil, minus, ring, ◌⊕◌, ◌⊗◌}
use Rattle.tetri_num.specs.Checked.{checked_quotient}
use Rattle.tetri_dictionary.proofs.Dots.{plus_scaled, negated}
use Rattle.tetri_dictionary.proofs.PivotKeeps.{then_ok_pair}
use Rattle.tetri_dictionary.proofs.PivotKeeps.{or_place_is, checked_product_is, recip_mul, above_within}
use Rattle.tetri_dictionary.proofs.Signs.{NotBelow, AtMost, not_less, less_at_most, at_most_trans, add_not_below, mul_not_below, recip_not_below, zero_not_below, not_above, above_sign}
use Rattle.tetri_dictionary.specs.Choices.{lesser_ratio, entering_from}
use Rattle.tetri_dictionary.specs.Steps.{or_place}
use Rattle.tetri_base.specs.ResultSteps.{then_ok}
use Rattle.tetri_dictionary.specs.Tables.{is_positive, is_less}

pub at_most_refl : (p : ℚ) → AtMost p p
at_most_refl p = subst NotBelow (ring ℚ_ring (p ∷ []) nil (var 0 ⊕ minus (var 0)) refl) zero_not_below

-- ---- the best so far, against one more
pub record IsCloser (best : Option (ℕ × ℚ)) (k : ℕ) (x : ℚ) (r : ℕ × ℚ) : Type 0 where
  pub below_new : AtMost r.1 x
  pub below_old : (b : ℕ × ℚ) → best ≡ Some b → AtMost r.1 b.1
  pub from : (r ≡ (k, x)) ⊎ (best ≡ Some r)

both : (a b : Bool) → (a && b) ≡ true → (a ≡ true)
both true b e = refl
both false b e = absurd (false≢true e)

not_is : (t : Bool) → not t ≡ true → t ≡ false
not_is true e = absurd (false≢true e)
not_is false e = refl

pub lesser_ratio_is : (vs : List ℕ) (best : Option (ℕ × ℚ)) (k : ℕ) (x : ℚ) → (r : ℕ × ℚ) × ((lesser_ratio vs best k x ≡ Some r) × IsCloser best k x r)
lesser_ratio_is vs None k x = ((k, x), (refl, record { below_new = at_most_refl x; below_old = λ b e. absurd (none_some b e); from = inl refl }))
  where
    none_some : (b : ℕ × ℚ) → None ≡ Some b → ⊥
    none_some b e = cc
lesser_ratio_is vs (Some b) k x = by_less (is_less x b.1) refl
  where
    second : ℕ → Bool
    second m = not (is_less b.1 x) && nat_lt (get_or vs k 0) (get_or vs b.0 0)

    by_less : (t : Bool) → is_less x b.1 ≡ t → (r : ℕ × ℚ) × ((cond t (Some (k, x)) (cond (not (is_less b.1 x) && nat_lt (get_or vs k 0) (get_or vs b.0 0)) (Some (k, x)) (Some b)) ≡ Some r) × IsCloser (Some b) k x r)
    by_less true e = ((k, x), (refl, record { below_new = at_most_refl x; below_old = λ c q. subst (λ (w : ℕ × ℚ). AtMost x w.1) (same_Some b c q) (less_at_most x b.1 e); from = inl refl }))
    by_less false e = by_second (not (is_less b.1 x) && nat_lt (get_or vs k 0) (get_or vs b.0 0)) refl
      where
        by_second : (s : Bool) → (not (is_less b.1 x) && nat_lt (get_or vs k 0) (get_or vs b.0 0)) ≡ s → (r : ℕ × ℚ) × ((cond s (Some (k, x)) (Some b) ≡ Some r) × IsCloser (Some b) k x r)
        by_second true f = ((k, x), (refl, record { below_new = at_most_refl x; below_old = λ c q. subst (λ (w : ℕ × ℚ). AtMost x w.1) (same_Some b c q) (not_less x b.1 (not_is _ (both _ _ f))); from = inl refl }))
        by_second false f = (b, (refl, record { below_new = not_less b.1 x e; below_old = λ c q. subst (λ (w : ℕ × ℚ). AtMost b.1 w.1) (same_Some b c q) (at_most_refl b.1); from = inr refl }))

is_new : (vs : List ℕ) (best : Option (ℕ × ℚ)) (k : ℕ) (x : ℚ) (c r : ℕ × ℚ) → lesser_ratio vs best k x ≡ Some c → lesser_ratio vs best k x ≡ Some r → c ≡ (k, x) → r ≡ (k, x)
is_new vs best k x c r e v w = sym (same_Some c r (sym e ∙ v)) ∙ w

-- ---- all candidates
abbrev pub ratio_at : List ℚ → List ℚ → ℕ → ℚ
ratio_at xs ds q = ◌*ℚ◌ (neg_ℚ (get_or ds q zero_ℚ)) (recip_ℚ (get_or xs q zero_ℚ))

pub record IsLeast (k : ℕ) (xs ds : List ℚ) (best : Option (ℕ × ℚ)) (r : ℕ × ℚ) : Type 0 where
  pub least : (q : ℕ) → is_positive (get_or xs q zero_ℚ) ≡ true → AtMost r.1 (ratio_at xs ds q)
  pub below_old : (b : ℕ × ℚ) → best ≡ Some b → AtMost r.1 b.1
  pub from : (best ≡ Some r) ⊎ ((q : ℕ) × ((r.0 ≡ k + q) × ((r.1 ≡ ratio_at xs ds q) × (is_positive (get_or xs q zero_ℚ) ≡ true))))

pub entering_is : (vs : List ℕ) (i k : ℕ) (xs ds : List ℚ) (best : Option (ℕ × ℚ)) (r : ℕ × ℚ) → length xs ≤ length ds → entering_from vs i k xs ds best ≡ Ok (Some r) → IsLeast k xs ds best r
unfolding whole_ℚ
entering_is vs i k [] ds best r h e =
    let s : best ≡ Some r = cc in
    record {
      least = λ q f. absurd (false≢true f);
      below_old = λ b f. let g : r ≡ b = cc in subst (λ (w : ℕ × ℚ). AtMost r.1 w.1) g (at_most_refl r.1);
      from = inl s;
    }
entering_is vs i k (a ∷ xs) [] best r h e = absurd (omega arith)
entering_is vs i k (a ∷ xs) (d ∷ ds) best r h e = by_test (is_positive a) refl (λ other g. entering_is vs i (k + 1) xs ds other r (omega arith) g) e
  where
    later : (q : ℕ) → r.0 ≡ (k + 1) + q → r.0 ≡ k + suc q
    later q f = omega arith

    now : (n : ℕ) → n ≡ k → n ≡ k + 0
    now n f = omega arith

    by_test : (t : Bool) → is_positive a ≡ t → ((other : Option (ℕ × ℚ)) → entering_from vs i (k + 1) xs ds other ≡ Ok (Some r) → IsLeast (k + 1) xs ds other r) →
        cond t (then_ok (or_place (checked_quotient (neg_ℚ d) a) Kind.Ratio i k) (λ x. entering_from vs i (k + 1) xs ds (lesser_ratio vs best k x))) (entering_from vs i (k + 1) xs ds best) ≡ Ok (Some r) → IsLeast k (a ∷ xs) (d ∷ ds) best r
    by_test false f ih g =
        let o = ih best g in
        record {
          least = λ q. elim q as (λ (q : ℕ). is_positive (get_or (a ∷ xs) q zero_ℚ) ≡ true → AtMost r.1 (ratio_at (a ∷ xs) (d ∷ ds) q)) [ zero ↦ λ u. absurd (false≢true (sym f ∙ u)) | suc p ↦ λ u. o.least p u ];
          below_old = o.below_old;
          from = ⊎_elim (λ s. inl s) (λ s. inr (suc s.0, (later s.0 s.1.0, s.1.1))) o.from;
        }
    by_test true f ih g =
        let s = then_ok_pair (or_place (checked_quotient (neg_ℚ d) a) Kind.Ratio i k) _ (Some r) g in
        let x = s.0 in
        let xe : x ≡ ◌*ℚ◌ (neg_ℚ d) (recip_ℚ a) = checked_product_is (neg_ℚ d) (recip_ℚ a) x (or_place_is _ _ _ _ _ s.1.0) in
        let c = lesser_ratio_is vs best k x in
        let o = ih (lesser_ratio vs best k x) s.1.1 in
        let u : AtMost r.1 c.0.1 = o.below_old c.0 c.1.0 in
        record {
          least = λ q. elim q as (λ (q : ℕ). is_positive (get_or (a ∷ xs) q zero_ℚ) ≡ true → AtMost r.1 (ratio_at (a ∷ xs) (d ∷ ds) q))
              [ zero ↦ λ v. subst (λ w. AtMost r.1 w) xe (at_most_trans r.1 c.0.1 x u c.1.1.below_new) | suc p ↦ λ v. o.least p v ];
          below_old = λ b v. at_most_trans r.1 c.0.1 b.1 u (c.1.1.below_old b v);
          from = ⊎_elim (λ v. ⊎_elim (λ w. inr (0, (now r.0 (ap (λ (z : ℕ × ℚ). z.0) (is_new vs best k x c.0 r c.1.0 v w)), (ap (λ (z : ℕ × ℚ). z.1) (is_new vs best k x c.0 r c.1.0 v w) ∙ xe, f)))) (λ w. inl (w ∙ sym (c.1.0) ∙ v)) c.1.1.from) (λ v. inr (suc v.0, (later v.0 v.1.0, v.1.1))) o.from;
        }

above_not_below : (a : ℚ) → is_positive a ≡ true → NotBelow a
above_not_below a s = record { sign = above_sign a.num s }

-- ---- the objective's coefficients
pub get-plus_scaled : (f : ℚ) (u v : List ℚ) (k : ℕ) → get_or (plus_scaled ℚ_ring f u v) k zero_ℚ ≡ ◌+ℚ◌ (get_or u k zero_ℚ) (◌*ℚ◌ f (get_or v k zero_ℚ))
get-plus_scaled f [] [] k = ring ℚ_ring (f ∷ []) nil (nil ⊕ var 0 ⊗ nil) refl
get-plus_scaled f [] (b ∷ v) zero = refl
get-plus_scaled f [] (b ∷ v) (suc k) = get-plus_scaled f [] v k
get-plus_scaled f (a ∷ u) [] zero = refl
get-plus_scaled f (a ∷ u) [] (suc k) = get-plus_scaled f u [] k
get-plus_scaled f (a ∷ u) (b ∷ v) zero = refl
get-plus_scaled f (a ∷ u) (b ∷ v) (suc k) = get-plus_scaled f u v k

get-negated : (c : ℚ) (u : List ℚ) (k : ℕ) → get_or (map (negated ℚ_ring c) u) k zero_ℚ ≡ ◌*ℚ◌ (neg_ℚ (get_or u k zero_ℚ)) c
get-negated c [] k = ring ℚ_ring (c ∷ []) nil (minus nil ⊗ var 0) refl
get-negated c (a ∷ u) zero = refl
get-negated c (a ∷ u) (suc k) = get-negated c u k

get-set_zero : (u : List ℚ) (k : ℕ) → get_or (set u k zero_ℚ) k zero_ℚ ≡ zero_ℚ
get-set_zero [] k = refl
get-set_zero (a ∷ u) zero = refl
get-set_zero (a ∷ u) (suc k) = get-set_zero u k

-- D the objective's row, A the leaving row, both with their constants first; place j enters
pub signs_kept : (D A : List ℚ) (j : ℕ) → is_positive (get_or A (suc j) zero_ℚ) ≡ true →
    ((k : ℕ) → NotBelow (neg_ℚ (get_or D (suc k) zero_ℚ))) →
    ((k : ℕ) → is_positive (get_or A (suc k) zero_ℚ) ≡ true → AtMost (◌*ℚ◌ (neg_ℚ (get_or D (suc j) zero_ℚ)) (recip_ℚ (get_or A (suc j) zero_ℚ))) (◌*ℚ◌ (neg_ℚ (get_or D (suc k) zero_ℚ)) (recip_ℚ (get_or A (suc k) zero_ℚ)))) →
    (k : ℕ) → NotBelow (neg_ℚ (get_or (plus_scaled ℚ_ring (get_or D (suc j) zero_ℚ) (set D (suc j) zero_ℚ) (map (negated ℚ_ring (recip_ℚ (get_or A (suc j) zero_ℚ))) (set A (suc j) (whole_ℚ (negsuc 0))))) (suc k) zero_ℚ))
signs_kept D A j ab na least k =
    let f = get_or D (suc j) zero_ℚ in
    let c = recip_ℚ (get_or A (suc j) zero_ℚ) in
    let e = get-plus_scaled f (set D (suc j) zero_ℚ) (map (negated ℚ_ring c) (set A (suc j) (whole_ℚ (negsuc 0)))) (suc k)
    ∙ ap (λ z. ◌+ℚ◌ (get_or (set D (suc j) zero_ℚ) (suc k) zero_ℚ) (◌*ℚ◌ f z)) (get-negated c (set A (suc j) (whole_ℚ (negsuc 0))) (suc k)) in
    subst (λ z. NotBelow (neg_ℚ z)) (sym e) (by_place (eqb (suc k) (suc j)) refl)
  where
    f' : ℚ
    f' = get_or D (suc j) zero_ℚ

    by_place : (t : Bool) → eqb (suc k) (suc j) ≡ t →
        NotBelow (neg_ℚ (◌+ℚ◌ (get_or (set D (suc j) zero_ℚ) (suc k) zero_ℚ) (◌*ℚ◌ (get_or D (suc j) zero_ℚ) (◌*ℚ◌ (neg_ℚ (get_or (set A (suc j) (whole_ℚ (negsuc 0))) (suc k) zero_ℚ)) (recip_ℚ (get_or A (suc j) zero_ℚ))))))
    by_place true t =
        let e = eqb-true (suc k) (suc j) t in
        let f = get_or D (suc j) zero_ℚ in
        let c = recip_ℚ (get_or A (suc j) zero_ℚ) in
        let p : get_or (set D (suc j) zero_ℚ) (suc k) zero_ℚ ≡ zero_ℚ = ap (λ n. get_or (set D (suc j) zero_ℚ) n zero_ℚ) e ∙ get-set_zero D (suc j) in
        let q : get_or (set A (suc j) (whole_ℚ (negsuc 0))) (suc k) zero_ℚ ≡ whole_ℚ (negsuc 0) =
        ap (λ n. get_or (set A (suc j) (whole_ℚ (negsuc 0))) n zero_ℚ) e ∙ get_or-set_same A (suc j) (whole_ℚ (negsuc 0)) zero_ℚ (above_within A (suc j) ab) in
        subst (λ z. NotBelow (neg_ℚ (◌+ℚ◌ z (◌*ℚ◌ f (◌*ℚ◌ (neg_ℚ (get_or (set A (suc j) (whole_ℚ (negsuc 0))) (suc k) zero_ℚ)) c))))) (sym p)
        (subst (λ z. NotBelow (neg_ℚ (◌+ℚ◌ zero_ℚ (◌*ℚ◌ f (◌*ℚ◌ (neg_ℚ z) c))))) (sym q)
        (subst NotBelow (ring ℚ_ring (f ∷ c ∷ []) (minus (var 0) ⊗ var 1) (minus (nil ⊕ var 0 ⊗ (minus (num (negsuc 0)) ⊗ var 1))) refl)
        (mul_not_below (neg_ℚ f) c (na j) (recip_not_below _ ab))))
    by_place false t =
        let ne = eqb-false (suc k) (suc j) t in
        let f = get_or D (suc j) zero_ℚ in
        let c = recip_ℚ (get_or A (suc j) zero_ℚ) in
        let d = get_or D (suc k) zero_ℚ in
        let a = get_or A (suc k) zero_ℚ in
        let p : get_or (set D (suc j) zero_ℚ) (suc k) zero_ℚ ≡ d = get_or-set_other D (suc j) (suc k) zero_ℚ zero_ℚ ne in
        let q : get_or (set A (suc j) (whole_ℚ (negsuc 0))) (suc k) zero_ℚ ≡ a = get_or-set_other A (suc j) (suc k) (whole_ℚ (negsuc 0)) zero_ℚ ne in
        subst (λ z. NotBelow (neg_ℚ (◌+ℚ◌ z (◌*ℚ◌ f (◌*ℚ◌ (neg_ℚ (get_or (set A (suc j) (whole_ℚ (negsuc 0))) (suc k) zero_ℚ)) c))))) (sym p)
        (subst (λ z. NotBelow (neg_ℚ (◌+ℚ◌ d (◌*ℚ◌ f (◌*ℚ◌ (neg_ℚ z) c))))) (sym q)
        (by_sign d a f c (na k) (na j) (recip_not_below _ ab) (least k) (is_positive a) refl))
      where
        by_sign : (d a f c : ℚ) → NotBelow (neg_ℚ d) → NotBelow (neg_ℚ f) → NotBelow c → (is_positive a ≡ true → AtMost (◌*ℚ◌ (neg_ℚ f) c) (◌*ℚ◌ (neg_ℚ d) (recip_ℚ a))) → (s : Bool) → is_positive a ≡ s → NotBelow (neg_ℚ (◌+ℚ◌ d (◌*ℚ◌ f (◌*ℚ◌ (neg_ℚ a) c))))
        by_sign d a f c nd nf nc lst true s =
            let r = recip_ℚ a in
            let m = mul_not_below a (◌+ℚ◌ (◌*ℚ◌ (neg_ℚ d) r) (neg_ℚ (◌*ℚ◌ (neg_ℚ f) c))) (above_not_below a s) (lst s) in
            subst NotBelow
            (ring ℚ_ring (a ∷ d ∷ r ∷ f ∷ c ∷ []) (var 0 ⊗ (minus (var 1) ⊗ var 2 ⊕ minus (minus (var 3) ⊗ var 4))) (minus (var 1) ⊗ (var 0 ⊗ var 2) ⊕ minus (minus (var 3) ⊗ var 4 ⊗ var 0)) refl
            ∙ ap (λ z. ◌+ℚ◌ (◌*ℚ◌ (neg_ℚ d) z) (neg_ℚ (◌*ℚ◌ (◌*ℚ◌ (neg_ℚ f) c) a))) (recip_mul a s)
            ∙ ring ℚ_ring (a ∷ d ∷ f ∷ c ∷ []) (minus (var 1) ⊗ num (pos 1) ⊕ minus (minus (var 2) ⊗ var 3 ⊗ var 0)) (minus (var 1 ⊕ var 2 ⊗ (minus (var 0) ⊗ var 3))) refl)
            m
        by_sign d a f c nd nf nc lst false s =
            subst NotBelow (ring ℚ_ring (a ∷ d ∷ f ∷ c ∷ []) (minus (var 1) ⊕ (minus (var 2) ⊗ var 3) ⊗ minus (var 0)) (minus (var 1 ⊕ var 2 ⊗ (minus (var 0) ⊗ var 3))) refl)
            (add_not_below (neg_ℚ d) (◌*ℚ◌ (◌*ℚ◌ (neg_ℚ f) c) (neg_ℚ a)) nd (mul_not_below (◌*ℚ◌ (neg_ℚ f) c) (neg_ℚ a) (mul_not_below (neg_ℚ f) c nf nc) (not_above a s)))

-- What the end of a run says.
use Rattle.std.proofs.Common.{◌≡◌, ℕ, ◌+◌, ◌<◌, ◌^◌, lit<, refl, sym, ap, ◌∙◌, subst, arith, List, [], ◌∷◌, length, get_or, Option, Some, None, Result, Ok, Err, Bool, true, false, cond, ◌⊎◌, ⊎_elim, inl, inr}
use Rattle.std.specs.Prelude.{◌<ℤ◌, ◌≤ℤ◌, nat_lt}
use Rattle.std.specs.Int.{int_div_euclid}
use Prim.Native.Nat.{zero, suc}
use Rattle.std.proofs.lemmas.Int.{ints}
use lib.IntN.{ℤ, pos, ◌*ℤ◌}
use Rattle.tetri_algebra.specs.Rational.{ℚ}
use Rattle.tetri_algebra.specs.RationalRing.{zero_ℚ}
use Rattle.tetri_algebra.specs.Integers.{mul_lt_cancel}
use Rattle.tetri_algebra.specs.IntegerRing.{ℤ_ring}
use Rattle.tetri_algebra.specs.Quotients.{div_below}
use Rattle.tetri_algebra.specs.RingSolver.{var, ring, ◌⊗◌}
use Rattle.tetri_algebra.specs.Range.{IsWithin}
use Rattle.tetri_ip.specs.Forming.{first_negative, weigh_answer}
use Rattle.tetri_ip.specs.declared.programs.WeighFault.{WeighFault}
use Rattle.tetri_ip.specs.declared.programs.WeighFault.TheVariants.{Negative, Past}
use Rattle.tetri_ip.specs.Points.{Bounds}
use Rattle.tetri_ip.specs.Weighed.{weighed}
use Rattle.tetri_ip.specs.declared.programs.Program.{Program}
use Rattle.tetri_ip.specs.declared.programs.Weight.{Weight}
use Rattle.tetri_num.specs.declared.places.Place.{Place}
use Rattle.tetri_simplex.proofs.FirstKept.{first_kept}
use Rattle.tetri_simplex.proofs.Kept.{IsKept, sound_from_kept, turn_kept}
use Rattle.tetri_simplex.proofs.Placed.{IsBox}
use Rattle.tetri_simplex.proofs.WeighedForms.{never_negative, none_negative, weighed_is}
use Rattle.tetri_simplex.proofs.WeightSigns.{AreProper, AreRowWeights, are_proper, are_row_weights, ascend, denominator_within, in_range, nonzero, not_negative, of_rows, weights_from_zero}
use Rattle.tetri_simplex.specs.Certificates.{AreWeights, Certifies}
use lib.Signed.{le_z}
use Rattle.tetri_algebra.specs.Rational.{whole_ℚ}
use Rattle.tetri_algebra.specs.RationalRing.{◌*ℚ◌}
use Rattle.tetri_algebra.specs.RationalOrder.{◌≤ℚ◌, ≤ℚ_antisymm, floor_ℚ}
use Rattle.tetri_simplex.proofs.BestPoint.{at_most, point_is, basic_point_is}
use Rattle.tetri_simplex.proofs.RelaxedDuality.{relaxed_duality}
use Rattle.tetri_simplex.specs.Relaxation.{IsRelaxedPoint, objective_value}
use Rattle.tetri_simplex.proofs.Sound.{cut_bounds, weights_not_below, none_above, cut_is_cut, empty_is_below}
use Rattle.tetri_dictionary.specs.Choices.{entering, has_positive, leaving, leaving_from, lesser_place}
use Rattle.tetri_simplex.specs.Ends.{End, best, cut, empty, past, long, cut_end, best_end, empty_end, then_end, point_from, common_denominator, whole_weights, objective_weights, row_weights, when_weighed, weighted_end, is_cut}
use Rattle.tetri_simplex.proofs.WholeWeights.{AreNotBelow, common_denominator_is}
use Rattle.tetri_simplex.specs.Machine.{Turn, ends, leaves, run, turn, by_leaving, next, by_entering, at_step, machine}
use Rattle.tetri_dictionary.specs.Start.{first_table}
use Rattle.tetri_base.specs.ResultSteps.{then_ok}
use Rattle.tetri_dictionary.specs.Tables.{Table, coefficients_of, is_negative, objective_of, constant_of}

-- ---- the leaving place
pub record IsFound (k : ℕ) (bs : List ℕ) (rows : List (List ℚ)) (i : ℕ) : Type 0 where
  pub place : ℕ
  pub at : i ≡ k + place
  pub within : place < length bs
  pub below : is_negative (get_or (get_or rows place []) 0 zero_ℚ) ≡ true

lesser_is : (vs : List ℕ) (b : Option ℕ) (k i : ℕ) → lesser_place vs b k ≡ Some i → (i ≡ k) ⊎ (b ≡ Some i)
lesser_is vs None k i e = inl cc
lesser_is vs (Some b) k i e = by_test (nat_lt (get_or vs k 0) (get_or vs b 0)) e
  where
    by_test : (t : Bool) → cond t (Some k) (Some b) ≡ Some i → (i ≡ k) ⊎ (Some b ≡ Some i)
    by_test true f = inl cc
    by_test false f = inr f

leaving_is : (vs : List ℕ) (k : ℕ) (bs : List ℕ) (rows : List (List ℚ)) (b : Option ℕ) (i : ℕ) → leaving_from vs k bs rows b ≡ Some i → (b ≡ Some i) ⊎ IsFound k bs rows i
leaving_is vs k [] rows b i e = inl e
leaving_is vs k (v ∷ bs) [] b i e = inl e
leaving_is vs k (v ∷ bs) (row ∷ rows) b i e =
    ⊎_elim (by_test (is_negative (get_or row 0 zero_ℚ)) refl) (λ f. inr (record { place = suc f.place; at = shift f.place f.at; within = up f.place (length bs) f.within; below = f.below }))
    (leaving_is vs (k + 1) bs rows (cond (is_negative (get_or row 0 zero_ℚ)) (lesser_place vs b k) b) i e)
  where
    shift : (q : ℕ) → i ≡ (k + 1) + q → i ≡ k + suc q
    shift q h = omega arith

    here : i ≡ k → i ≡ k + 0
    here h = omega arith

    up : (q n : ℕ) → q < n → suc q < suc n
    up q n h = omega arith

    above_zero : 0 < suc (length bs)
    above_zero = omega arith

    by_test : (t : Bool) → is_negative (get_or row 0 zero_ℚ) ≡ t → cond t (lesser_place vs b k) b ≡ Some i → (b ≡ Some i) ⊎ IsFound k (v ∷ bs) (row ∷ rows) i
    by_test true h f = ⊎_elim (λ g. inr (record { place = 0; at = here g; within = above_zero; below = h })) (λ g. inl g) (lesser_is vs b k i f)
    by_test false h f = inl f

-- ---- the ends
certified_weights : (p : Program) (r : Bounds) (q : ℤ) (ys : List Weight) → AreRowWeights (length p.rows.items) ys → AreProper 0 ys → IsWithin q → weigh_answer p r q ys ≡ Ok (weighed p r q ys) → AreWeights p r q ys
certified_weights p r q ys h k w f = record {
  rows = of_rows p ys h;
  ascending = ascend 0 ys k;
  signs = not_negative (length p.rows.items) ys h;
  nonzero = nonzero 0 ys k;
  in_range = in_range 0 ys k;
  multiplier_in_range = w;
  formed = f;
}

when_weighed_holds : (p : Program) (r : Bounds) (b : ℕ) (q : ℤ) (ys : List Weight) (e : End) → first_negative ys ≡ None → (weigh_answer p r q ys ≡ Ok (weighed p r q ys) → Certifies p r b e) → Certifies p r b (when_weighed (weigh_answer p r q ys) e)
when_weighed_holds p r b q ys e n h = by_answer (weigh_answer p r q ys) refl
  where
    by_answer : (o : Result ℤ WeighFault) → weigh_answer p r q ys ≡ o → Certifies p r b (when_weighed o e)
    by_answer (Ok z) f = h (f ∙ ap Ok (weighed_is p r q ys z n f))
    by_answer (Err (Past j)) f = tt
    by_answer (Err (Negative i)) f = absurd (never_negative p r q ys i n f)

ended : {A : Type 0} → (p : Program) (r : Bounds) (b : ℕ) (o : Result A Place) (f : A → End) → ((x : A) → o ≡ Ok x → Certifies p r b (f x)) → Certifies p r b (then_end o f)
ended p r b (Ok x) f h = h x refl
ended p r b (Err e) f h = tt

weighted_holds : (p : Program) (r : Bounds) (b : ℕ) (ws : List ℚ) (m : ℕ → ℤ) (done : ℤ → List Weight → End) → AreNotBelow ws → 0 + length ws ≡ length p.rows.items → ((q : ℕ) → q < 2 ^ 127 → IsWithin (m q)) →
    ((q : ℕ) (ys : List Weight) → common_denominator 0 1 ws ≡ Ok q → whole_weights 0 q ws ≡ Ok ys → AreRowWeights (length p.rows.items) ys → AreWeights p r (m q) ys → Certifies p r b (done (m q) ys)) → Certifies p r b (weighted_end p r ws m done)
weighted_holds p r b ws m done nb l mw h =
    ended p r b (common_denominator 0 1 ws) (λ q. then_end (whole_weights 0 q ws) (λ ys. when_weighed (weigh_answer p r (m q) ys) (done (m q) ys))) (λ q fe.
    ended p r b (whole_weights 0 q ws) (λ ys. when_weighed (weigh_answer p r (m q) ys) (done (m q) ys)) (λ ys we.
    let k = are_row_weights (length p.rows.items) 0 q ws ys nb l we in
    when_weighed_holds p r b (m q) ys (done (m q) ys) (none_negative (length p.rows.items) ys k) (λ f.
    h q ys fe we k (certified_weights p r (m q) ys k (are_proper 0 q ws ys we) (mw q (denominator_within 0 1 ws q fe (lit< tt))) f))))

positive : (q : ℕ) → 0 < q → pos 0 <ℤ pos q
positive q h = omega (arith, ints)

objective_not_below : (p : Program) (r : Bounds) (t : Table) → IsKept p r t → AreNotBelow (objective_weights p t)
objective_not_below p r t k =
    let n = length p.costs.items in
    weights_not_below t.nonbasic (coefficients_of (objective_of t)) (n + length p.rows.items + n) n p.rows.items k.signs

objective_count : (p : Program) (t : Table) → 0 + length (objective_weights p t) ≡ length p.rows.items
objective_count p t =
    let n = length p.costs.items in
    weights_from_zero t.nonbasic (coefficients_of (objective_of t)) (n + length p.rows.items + n) n p.rows.items

floor_at_most : (w q : ℤ) (b : ℕ) → pos 0 <ℤ q → w <ℤ (q *ℤ pos (b + 1)) → int_div_euclid w q ≤ℤ pos b
floor_at_most w q b h k =
    less (int_div_euclid w q) (mul_lt_cancel q (int_div_euclid w q) (pos (b + 1)) h (chain (int_div_euclid w q *ℤ q) (q *ℤ pos (b + 1)) (pos (b + 1) *ℤ q) (div_below w q h) k (ring ℤ_ring (q ∷ pos (b + 1) ∷ []) (var 0 ⊗ var 1) (var 1 ⊗ var 0) refl)))
  where
    chain : (x y z : ℤ) → x ≤ℤ w → w <ℤ y → y ≡ z → x <ℤ z
    chain x y z l m e = omega (arith, ints)

    less : (d : ℤ) → d <ℤ pos (b + 1) → d ≤ℤ pos b
    less d l = omega (arith, ints)

cut_holds : (p : Program) (r : Bounds) (b : ℕ) (t : Table) → IsBox p.costs.items r.lower r.upper → IsKept p r t → is_cut t b ≡ true → Certifies p r b (cut_end p r t)
cut_holds p r b t box k c =
    weighted_holds p r b (objective_weights p t) pos cut (objective_not_below p r t k) (objective_count p t) (λ q w. w) (λ q ys fe we signs ws.
    let h = positive q ((common_denominator_is 0 1 q (objective_weights p t) fe).1.1 (omega arith)) in
    record { weights = ws; multiplier = h; at_most = floor_at_most (weighed p r (pos q) ys) (pos q) b h (cut_is_cut p r t b q ys box (sound_from_kept p r t k) c fe we) })

floor_above : (c : ℚ) (b : ℕ) → le_z (floor_ℚ c) (pos b) ≡ false → pos b <ℤ floor_ℚ c
floor_above c b e = above (floor_ℚ c) e
  where
    above : (n : ℤ) → le_z n (pos b) ≡ false → pos b <ℤ n
    above n e = grind (arith, ints)

best_holds : (p : Program) (r : Bounds) (b : ℕ) (t : Table) → IsBox p.costs.items r.lower r.upper → IsKept p r t → is_cut t b ≡ false → leaving t ≡ None → Certifies p r b (best_end p r t)
best_holds p r b t box k c l =
    ended p r b (point_from t.basic t.rows 0 p.costs.items r.lower r.upper) (λ point. weighted_end p r (objective_weights p t) pos (best point)) (λ point pe.
    weighted_holds p r b (objective_weights p t) pos (best point) (objective_not_below p r t k) (objective_count p t) (λ q w. w) (λ q ys fe we signs ws.
    let x = point_is t.basic t.rows 0 p.costs.items r.lower r.upper point box pe in
    let basic = basic_point_is p r t box k l in
    let relaxed = subst (IsRelaxedPoint p r) (sym x) basic.relaxed in
    let worth = ap (objective_value p) x ∙ basic.worth in
    record {
      relaxed = relaxed;
      above = subst (λ z. pos b <ℤ floor_ℚ z) (sym worth) (floor_above (constant_of (objective_of t)) b c);
      weights = ws;
      multiplier = positive q ((common_denominator_is 0 1 q (objective_weights p t) fe).1.1 (omega arith));
      optimal = ≤ℚ_antisymm (whole_ℚ (weighed p r (pos q) ys)) (◌*ℚ◌ (whole_ℚ (pos q)) (objective_value p point))
          (subst (λ z. whole_ℚ (weighed p r (pos q) ys) ≤ℚ ◌*ℚ◌ (whole_ℚ (pos q)) z) (sym worth) (at_most _ _ (cut_bounds p r t b q ys box (sound_from_kept p r t k) fe we)))
          (relaxed_duality p r (pos q) ys point signs relaxed);
    }))

empty_holds : (p : Program) (r : Bounds) (b : ℕ) (t : Table) (i : ℕ) → IsBox p.costs.items r.lower r.upper → IsKept p r t → leaving t ≡ Some i → has_positive (coefficients_of (get_or t.rows i [])) ≡ false → Certifies p r b (empty_end p r t i)
unfolding leaving
empty_holds p r b t i box k l h =
    let n = length p.costs.items in
    let own = get_or t.basic i 0 in
    let xs = coefficients_of (get_or t.rows i []) in
    let f = ⊎_elim (λ e. absurd (none_some i e)) (λ f. f) (leaving_is t.basic 0 t.basic t.rows None i l) in
    let g : i ≡ f.place = zero_plus f.place i f.at in
    weighted_holds p r b (row_weights p t i) (λ q. pos 0) (λ q ys. empty ys) (weights_not_below t.nonbasic xs own n p.rows.items (none_above xs h)) (weights_from_zero t.nonbasic xs own n p.rows.items) (λ q w. lit< tt) (λ q ys fe we signs ws.
    record { weights = ws; negative = empty_is_below p r t i q ys box (sound_from_kept p r t k) (subst (λ n. n < length t.basic) (sym g) f.within) h (ap (λ n. is_negative (get_or (get_or t.rows n []) 0 zero_ℚ)) g ∙ f.below) fe we })
  where
    none_some : (i : ℕ) → None ≡ Some i → ⊥
    none_some i e = cc

    zero_plus : (q i : ℕ) → i ≡ 0 + q → i ≡ q
    zero_plus q i e = omega arith

-- ---- the run
TurnHolds : Program → Bounds → ℕ → Table → Turn → Type 0
TurnHolds p r b t (ends e) = Certifies p r b e
TurnHolds p r b t (leaves i) = i < length t.basic

turn_holds : (p : Program) (r : Bounds) (b : ℕ) (t : Table) → IsBox p.costs.items r.lower r.upper → IsKept p r t → TurnHolds p r b t (turn p r b t)
unfolding turn TurnHolds leaving
turn_holds p r b t box k = by_cut (is_cut t b) refl
  where
    none_some : (i : ℕ) → None ≡ Some i → ⊥
    none_some i e = cc

    zero_plus : (q i : ℕ) → i ≡ 0 + q → i ≡ q
    zero_plus q i e = omega arith

    by_above : (i : ℕ) (a : Bool) → has_positive (coefficients_of (get_or t.rows i [])) ≡ a → leaving t ≡ Some i → TurnHolds p r b t (cond a (leaves i) (ends (empty_end p r t i)))
    by_above i false h l = empty_holds p r b t i box k l h
    by_above i true h l =
        let f = ⊎_elim (λ e. absurd (none_some i e)) (λ f. f) (leaving_is t.basic 0 t.basic t.rows None i l) in
        subst (λ n. n < length t.basic) (sym (zero_plus f.place i f.at)) f.within

    by_place : (o : Option ℕ) → is_cut t b ≡ false → leaving t ≡ o → TurnHolds p r b t (by_leaving p r t o)
    by_place None h l = best_holds p r b t box k h l
    by_place (Some i) h l = by_above i (has_positive (coefficients_of (get_or t.rows i []))) refl l

    by_cut : (c : Bool) → is_cut t b ≡ c → TurnHolds p r b t (cond c (ends (cut_end p r t)) (by_leaving p r t (leaving t)))
    by_cut true h = cut_holds p r b t box k h
    by_cut false h = by_place (leaving t) h refl

step_holds : (p : Program) (r : Bounds) (b s : ℕ) (e : End) → Certifies p r b e → Certifies p r b (at_step s e)
step_holds p r b s (best x q ws) h = h
step_holds p r b s (cut q ws) h = h
step_holds p r b s (empty ws) h = h
step_holds p r b s (past e) h = tt
step_holds p r b s long h = tt

next_kept : (p : Program) (r : Bounds) (t u : Table) (i : ℕ) → IsKept p r t → i < length t.basic → next t i ≡ Ok u → IsKept p r u
unfolding next
next_kept p r t u i k h e = by_found (entering t i) refl e
  where
    by_found : (o : Result (Option (ℕ × ℚ)) Place) → entering t i ≡ o → then_ok o (λ found. by_entering t i found) ≡ Ok u → IsKept p r u
    by_found (Err x) g f = cc
    by_found (Ok None) g f = let s : t ≡ u = cc in subst (IsKept p r) s k
    by_found (Ok (Some x)) g f = turn_kept p r t u i x k h g f

pub run_holds : (p : Program) (r : Bounds) (b k s : ℕ) (t : Table) → IsBox p.costs.items r.lower r.upper → IsKept p r t → Certifies p r b (run p r b k s t)
unfolding run TurnHolds
run_holds p r b zero s t box k = by_turn (turn p r b t) (turn_holds p r b t box k)
  where
    by_turn : (o : Turn) → TurnHolds p r b t o → Certifies p r b (elim o [ ends e ↦ at_step s e | leaves i ↦ long ])
    by_turn (ends e) h = step_holds p r b s e h
    by_turn (leaves i) h = tt
run_holds p r b (suc n) s t box k = by_turn (λ u q. run_holds p r b n (s + 1) u box q) (turn p r b t) (turn_holds p r b t box k)
  where
    by_next : ((u : Table) → IsKept p r u → Certifies p r b (run p r b n (s + 1) u)) → (o : Result Table Place) → ((u : Table) → o ≡ Ok u → IsKept p r u) → Certifies p r b (elim o [ Err e ↦ past (record e { step = s }) | Ok u ↦ run p r b n (s + 1) u ])
    by_next ih (Ok u) h = ih u (h u refl)
    by_next ih (Err e) h = tt

    by_turn : ((u : Table) → IsKept p r u → Certifies p r b (run p r b n (s + 1) u)) → (o : Turn) → TurnHolds p r b t o → Certifies p r b (elim o [ ends e ↦ at_step s e | leaves i ↦ elim (next t i) [ Err e ↦ past (record e { step = s }) | Ok u ↦ run p r b n (s + 1) u ] ])
    by_turn ih (ends e) h = step_holds p r b s e h
    by_turn ih (leaves i) h = by_next ih (next t i) (λ u e. next_kept p r t u i k h e)

pub machine_holds : (p : Program) (r : Bounds) (b : ℕ) → IsBox p.costs.items r.lower r.upper → Certifies p r b (machine p r b)
unfolding machine
machine_holds p r b box = run_holds p r b 10000 0 (first_table p r) box (first_kept p r box)

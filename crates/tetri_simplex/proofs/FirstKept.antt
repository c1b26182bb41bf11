-- The first table is sound.
use Rattle.std.proofs.Common.{◌≡◌, ℕ, ◌+◌, ◌<◌, ◌≤◌, refl, sym, ap, ◌∙◌, subst, arith, List, [], ◌∷◌, ◌++◌, append_assoc, length, get_or, map, Bool, true, false, cond, eqb, ⊎_elim}
use Rattle.std.specs.List.{range_with_len}
use Rattle.std.specs.Prelude.{◌≤ℤ◌}
use Prim.Native.Nat.{zero, suc}
use Rattle.std.proofs.Math.ListN.{length-append}
use Rattle.std.proofs.Math.Seq.{get_or-append_seam}
use Rattle.std.proofs.lemmas.Bool.{cases_lt, eqb-true}
use Rattle.std.proofs.lemmas.Int.{ints}
use borrow.Author.Differences.{lt-true, lt-false}
use lib.IntN.{ℤ, pos, negsuc, ◌-ℤ◌, ◌*ℤ◌, neg_ℤ}
use lib.Signed.{lt_z}
use Rattle.tetri_algebra.specs.Rational.{ℚ, whole_ℚ}
use Rattle.tetri_algebra.specs.RationalRing.{ℚ_ring, zero_ℚ}
use Rattle.tetri_algebra.specs.IntegerRing.{ℤ_ring}
use Rattle.tetri_algebra.specs.Sums.{dot}
use Rattle.tetri_ip.specs.Points.{Bounds, objective, left_side}
use Rattle.tetri_ip.specs.declared.programs.Program.{Program}
use Rattle.tetri_ip.specs.declared.programs.Row.{Row}
use Rattle.tetri_ip.specs.declared.programs.Term.{Term}
use Rattle.tetri_simplex.proofs.FirstValues.{ys_of, bounds_from, slack_value, objective_value, bound_values, whole_dot}
use Rattle.tetri_simplex.proofs.Kept.{IsKept, times}
use Rattle.tetri_dictionary.proofs.DictionaryLaws.{Solves, other, NotBelow, whole_not_below}
use Rattle.tetri_simplex.proofs.Placed.{IsPlaced, IsBox}
use Rattle.tetri_simplex.proofs.RowWeights.{AreNotAbove}
use Rattle.tetri_simplex.proofs.Sound.{val_at, slacks_of, neg_whole, ys_length}
use Rattle.tetri_dictionary.specs.Start.{corner, direction, slack_row, slack_from, minus_one_at, bound_rows, objective_row, first_rows, first_table}
use Rattle.tetri_dictionary.specs.Tables.{coefficients_of}
use Rattle.std.proofs.lemmas.List.{length-map, map-append, append-nil}
use Rattle.std.proofs.lemmas.List.FromFn.{length-range_with_len}

-- ---- the values of a range of variables
map_mid : (pre mid post : List ℚ) → map (λ v. get_or (pre ++ (mid ++ post)) v zero_ℚ) (range_with_len (length pre) (length mid)) ≡ mid
map_mid pre [] post = refl
map_mid pre (s ∷ mid) post =
    let e : pre ++ (s ∷ (mid ++ post)) ≡ (pre ++ (s ∷ [])) ++ (mid ++ post) = sym (append_assoc pre (s ∷ []) (mid ++ post)) in
    let l : length pre + 1 ≡ length (pre ++ (s ∷ [])) = sym (length-append pre (s ∷ [])) in
    ap (λ z. z ∷ map (λ v. get_or (pre ++ (s ∷ (mid ++ post))) v zero_ℚ) (range_with_len (length pre + 1) (length mid))) (get_or-append_seam pre s (mid ++ post) zero_ℚ)
    ∙ ap (λ w. s ∷ map (λ v. get_or w v zero_ℚ) (range_with_len (length pre + 1) (length mid))) e
    ∙ ap (λ k. s ∷ map (λ v. get_or ((pre ++ (s ∷ [])) ++ (mid ++ post)) v zero_ℚ) (range_with_len k (length mid))) l
    ∙ ap (λ zs. s ∷ zs) (map_mid (pre ++ (s ∷ [])) mid post)

bounds_length : (ys : List ℤ) (j : ℕ) (cs ls us : List ℤ) → IsBox cs ls us → length (bounds_from ys j ls us) ≡ length cs
bounds_length ys j [] [] [] h = refl
bounds_length ys j (c ∷ cs) (l ∷ ls) (u ∷ us) h = ap suc (bounds_length ys (j + 1) cs ls us h.1)
bounds_length ys j cs ls us h = absurd h

-- ---- the rows
slack_rows : (rows : List Row) (cs ls us x : List ℤ) → IsPlaced cs ls us x → map (λ row. dot ℤ_ring row (pos 1 ∷ ys_of cs ls us x)) (map (slack_row cs (corner cs ls us)) rows) ≡ slacks_of rows x
slack_rows [] cs ls us x h = refl
slack_rows (r ∷ rows) cs ls us x h =
    ap (λ z. z ∷ map (λ row. dot ℤ_ring row (pos 1 ∷ ys_of cs ls us x)) (map (slack_row cs (corner cs ls us)) rows)) (slack_value r cs ls us x h)
    ∙ ap (λ zs. (r.right -ℤ left_side r.terms.items x) ∷ zs) (slack_rows rows cs ls us x h)

whole_rows : (rows : List (List ℤ)) (v : List ℤ) → map (λ row. dot ℚ_ring row (map whole_ℚ v)) (map (map whole_ℚ) rows) ≡ map whole_ℚ (map (λ row. dot ℤ_ring row v) rows)
whole_rows [] v = refl
whole_rows (r ∷ rows) v = ap (λ z. z ∷ map (λ row. dot ℚ_ring row (map whole_ℚ v)) (map (map whole_ℚ) rows)) (whole_dot r v) ∙ ap (λ zs. whole_ℚ (dot ℤ_ring r v) ∷ zs) (whole_rows rows v)

first_solves : (p : Program) (r : Bounds) (x : List ℤ) → IsBox p.costs.items r.lower r.upper → IsPlaced p.costs.items r.lower r.upper x → Solves (val_at p r x) (whole_ℚ (objective p x)) (first_table p r)
unfolding first_table
first_solves p r x box h =
    let cs = p.costs.items in let ls = r.lower in let us = r.upper in
    let n = length cs in let m = length p.rows.items in
    let ys = ys_of cs ls us x in
    let bs = bounds_from ys 0 ls us in
    let Y = map whole_ℚ ys in let S = map whole_ℚ (slacks_of p.rows.items x) in let B = map whole_ℚ bs in
    let val = val_at p r x in
    let f : List ℤ → ℤ = λ row. dot ℤ_ring row (pos 1 ∷ ys) in
    let ly : length Y ≡ n = length-map ys whole_ℚ ∙ ys_length cs ls us x h in
    let lS : length S ≡ m = length-map (slacks_of p.rows.items x) whole_ℚ ∙ length-map p.rows.items (λ row. row.right -ℤ left_side row.terms.items x) in
    let lB : length B ≡ n = length-map bs whole_ℚ ∙ bounds_length ys 0 cs ls us box in
    let low : map val (range_with_len 0 n) ≡ Y = ap (λ k. map val (range_with_len 0 k)) (sym ly) ∙ map_mid [] Y (S ++ B) in
    let lSB : length (S ++ B) ≡ m + n = length-append S B ∙ ap (λ k. k + length B) lS ∙ ap (λ k. m + k) lB in
    let high : map val (range_with_len n (m + n)) ≡ S ++ B =
    ap (λ k. map val (range_with_len k (m + n))) (sym ly) ∙ ap (λ k. map val (range_with_len (length Y) k)) (sym lSB)
    ∙ ap (λ w. map (λ v. get_or (Y ++ w) v zero_ℚ) (range_with_len (length Y) (length (S ++ B)))) (sym (append-nil (S ++ B))) ∙ map_mid Y (S ++ B) [] in
    let A1 = map (slack_row cs (corner cs ls us)) p.rows.items in
    let A2 = bound_rows 0 cs ls us in
    let A3 : List (List ℤ) = objective_row cs (corner cs ls us) ∷ [] in
    let rows : map f (first_rows p r) ≡ (slacks_of p.rows.items x ++ bs) ++ (objective p x ∷ []) =
    map-append f (A1 ++ A2) A3 ∙ ap (λ z. z ++ map f A3) (map-append f A1 A2)
    ∙ ap (λ z. (z ++ map f A2) ++ map f A3) (slack_rows p.rows.items cs ls us x h)
    ∙ ap (λ z. (slacks_of p.rows.items x ++ z) ++ map f A3) (bound_values ys cs 0 ls us (sym (ys_length cs ls us x h)))
    ∙ ap (λ z. (slacks_of p.rows.items x ++ bs) ++ (z ∷ [])) (objective_value cs ls us x h) in
    ap (λ w. map (λ row. dot ℚ_ring row (whole_ℚ (pos 1) ∷ w)) (map (map whole_ℚ) (first_rows p r))) low
    ∙ whole_rows (first_rows p r) (pos 1 ∷ ys)
    ∙ ap (map whole_ℚ) rows
    ∙ map-append whole_ℚ (slacks_of p.rows.items x ++ bs) (objective p x ∷ [])
    ∙ ap (λ z. z ++ (whole_ℚ (objective p x) ∷ [])) (map-append whole_ℚ (slacks_of p.rows.items x) bs ∙ sym high)

-- ---- the variables of a range
times_before : (v a k : ℕ) → v < a → times v (range_with_len a k) ≡ 0
times_before v a zero h = refl
times_before v a (suc k) h = ap (λ t. cond t 1 0 + times v (range_with_len (a + 1) k)) (other a v (λ (e : a ≡ v). omega arith)) ∙ ap (λ z. 0 + z) (times_before v (a + 1) k (omega arith))

times_after : (v a k : ℕ) → a + k ≤ v → times v (range_with_len a k) ≡ 0
times_after v a zero h = refl
times_after v a (suc k) h = ap (λ t. cond t 1 0 + times v (range_with_len (a + 1) k)) (other a v (λ (e : a ≡ v). omega arith)) ∙ ap (λ z. 0 + z) (times_after v (a + 1) k (omega arith))

times_once : (v a k : ℕ) → times v (range_with_len a k) ≤ 1
times_once v a zero = omega arith
times_once v a (suc k) = by_test (eqb a v) refl (times_once v (a + 1) k) (λ h. times_before v (a + 1) k h)
  where
    by_test : (t : Bool) → eqb a v ≡ t → times v (range_with_len (a + 1) k) ≤ 1 → (v < a + 1 → times v (range_with_len (a + 1) k) ≡ 0) → cond t 1 0 + times v (range_with_len (a + 1) k) ≤ 1
    by_test true e ih h = let g : a ≡ v = eqb-true a v e in let z = h (omega arith) in omega arith
    by_test false e ih h = omega arith

range_once : (n k v : ℕ) → times v (range_with_len 0 n) + times v (range_with_len n k) ≤ 1
range_once n k v =
    ⊎_elim (λ l. sum_one _ _ (times_once v 0 n) (times_before v n k l)) (λ g. one_sum _ _ (times_after v 0 n (plus n v g)) (times_once v n k)) (cases_lt v n)
  where
    sum_one : (a b : ℕ) → a ≤ 1 → b ≡ 0 → a + b ≤ 1
    sum_one a b h k = omega arith

    one_sum : (a b : ℕ) → a ≡ 0 → b ≤ 1 → a + b ≤ 1
    one_sum a b h k = omega arith

    plus : (n v : ℕ) → n ≤ v → 0 + n ≤ v
    plus n v g = omega arith

-- ---- the first objective
cost_sign : (c : ℤ) → pos 0 ≤ℤ neg_ℤ (c *ℤ direction c)
cost_sign c = by_test (lt_z (pos 0) c) refl
  where
    by_test : (t : Bool) → lt_z (pos 0) c ≡ t → pos 0 ≤ℤ neg_ℤ (c *ℤ cond t (negsuc 0) (pos 1))
    by_test true e = let h = lt-true (pos 0) c e in omega (arith, ints)
    by_test false e = let h = lt-false (pos 0) c e in omega (arith, ints)

costs_signs : (cs : List ℤ) → AreNotAbove (map whole_ℚ (map (λ c. c *ℤ direction c) cs))
costs_signs [] = tt
costs_signs (c ∷ cs) = (subst NotBelow (sym (neg_whole (c *ℤ direction c))) (whole_not_below (neg_ℤ (c *ℤ direction c)) (cost_sign c)), costs_signs cs)

-- ---- lengths
bound_count : (j : ℕ) (ds cs ls us : List ℤ) → IsBox cs ls us → length (bound_rows j ds ls us) ≡ length cs
bound_count j ds [] [] [] h = refl
bound_count j ds (c ∷ cs) (l ∷ ls) (u ∷ us) h = ap suc (bound_count (j + 1) ds cs ls us h.1)
bound_count j ds cs ls us h = absurd h

abbrev AllLong : ℕ → List (List ℤ) → Type 0
AllLong n [] = Unit {0}
AllLong n (r ∷ rs) = (length r ≡ suc n) × AllLong n rs

long_append : (n : ℕ) (rs ss : List (List ℤ)) → AllLong n rs → AllLong n ss → AllLong n (rs ++ ss)
long_append n [] ss h k = k
long_append n (r ∷ rs) ss h k = (h.0, long_append n rs ss h.1 k)

long_get : (n : ℕ) (rs : List (List ℤ)) (k : ℕ) → AllLong n rs → k < length rs → length (get_or (map (map whole_ℚ) rs) k []) ≡ suc n
long_get n [] k h l = absurd (omega arith)
long_get n (r ∷ rs) zero h l = length-map r whole_ℚ ∙ h.0
long_get n (r ∷ rs) (suc k) h l = long_get n rs k h.1 (omega arith)

slack_long : (ts : List Term) (j : ℕ) (cs : List ℤ) → length (slack_from ts j cs) ≡ length cs
slack_long ts j [] = refl
slack_long ts j (c ∷ cs) = ap suc (slack_long ts (j + 1) cs)

slacks_long : (rows : List Row) (cs start : List ℤ) → AllLong (length cs) (map (slack_row cs start) rows)
slacks_long [] cs start = tt
slacks_long (r ∷ rows) cs start = (ap suc (slack_long r.terms.items 0 cs), slacks_long rows cs start)

less_long : (j k : ℕ) (cs : List ℤ) → length (minus_one_at j k cs) ≡ length cs
less_long j k [] = refl
less_long j k (c ∷ cs) = ap suc (less_long j (k + 1) cs)

bounds_long : (j : ℕ) (cs ls us : List ℤ) → AllLong (length cs) (bound_rows j cs ls us)
bounds_long j cs [] us = tt
bounds_long j cs (l ∷ ls) [] = tt
bounds_long j cs (l ∷ ls) (u ∷ us) = (ap suc (less_long j 0 cs), bounds_long (j + 1) cs ls us)

pub first_kept : (p : Program) (r : Bounds) → IsBox p.costs.items r.lower r.upper → IsKept p r (first_table p r)
unfolding first_table
first_kept p r box =
    let n = length p.costs.items in let m = length p.rows.items in
    let cs = p.costs.items in let ls = r.lower in let us = r.upper in
    let A1 = map (slack_row cs (corner cs ls us)) p.rows.items in
    let A2 = bound_rows 0 cs ls us in
    let o = objective_row cs (corner cs ls us) in
    let M : List ℤ → List ℚ = map whole_ℚ in
    let lr = length-range_with_len n (m + n) in
    let lA : length (A1 ++ A2) ≡ m + n = length-append A1 A2 ∙ ap (λ k. k + length A2) (length-map p.rows.items (slack_row cs (corner cs ls us))) ∙ ap (λ k. m + k) (bound_count 0 cs cs ls us box) in
    let seam : get_or (map M (first_rows p r)) (length (range_with_len n (m + n))) [] ≡ M o =
    ap (λ w. get_or w (length (range_with_len n (m + n))) []) (map-append M (A1 ++ A2) (o ∷ []))
    ∙ ap (λ k. get_or (map M (A1 ++ A2) ++ (M o ∷ [])) k []) (lr ∙ sym lA ∙ sym (length-map (A1 ++ A2) M))
    ∙ get_or-append_seam (map M (A1 ++ A2)) (M o) [] [] in
    record {
      solves = λ x h. first_solves p r x box h;
      back = λ val z w. w;
      once = λ v. range_once n (m + n) v;
      outside = times_after (n + m + n) 0 n (low n m);
      outside_basic = times_after (n + m + n) n (m + n) (high n m);
      signs = subst (λ w. AreNotAbove (coefficients_of w)) (sym seam) (costs_signs cs);
      count = length-map (first_rows p r) M ∙ length-append (A1 ++ A2) (o ∷ []) ∙ ap (λ k. k + 1) (lA ∙ sym lr);
      wide = λ k h. long_get n (first_rows p r) k (long_append n (A1 ++ A2) (o ∷ []) (long_append n A1 A2 (slacks_long p.rows.items cs (corner cs ls us)) (bounds_long 0 cs ls us)) (ap suc (length-map cs (λ c. c *ℤ direction c)), tt)) (subst (λ l. k < l) (length-map (first_rows p r) M) h) ∙ ap suc (sym (length-range_with_len 0 n));
    }
  where
    low : (n m : ℕ) → 0 + n ≤ n + m + n
    low n m = omega arith

    high : (n m : ℕ) → n + (m + n) ≤ n + m + n
    high n m = omega arith

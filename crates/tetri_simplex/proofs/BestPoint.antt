-- The point of a best end: the basic solution of a table with no constant below 0.
use Rattle.std.proofs.Common.{◌≡◌, ℕ, ◌+◌, ◌<◌, refl, sym, ap, ◌∙◌, subst, arith, List, [], ◌∷◌, ◌++◌, length, get_or, map, Option, Some, None, Ok, Bool, true, false, cond, eqb}
use Rattle.std.specs.List.{range_with_len}
use Rattle.std.specs.Prelude.{◌≤ℤ◌, nat_lt}
use Prim.Native.Nat.{zero, suc}
use Rattle.std.proofs.lemmas.Int.{ints}
use borrow.Author.Differences.{lt-false}
use lib.IntN.{ℤ, pos, ◌*ℤ◌}
use lib.Signed.{lt_z}
use Rattle.tetri_algebra.specs.Rational.{ℚ, whole_ℚ}
use Rattle.tetri_algebra.specs.RationalRing.{ℚ_ring, zero_ℚ, ◌+ℚ◌, neg_ℚ}
use Rattle.tetri_algebra.specs.RationalOrder.{◌≤ℚ◌, +ℚ-≤ℚ}
use Rattle.tetri_algebra.specs.RingSolver.{var, nil, minus, ring, ◌⊕◌}
use Rattle.tetri_algebra.specs.Sums.{dot}
use Rattle.tetri_num.specs.Checked.{checked_sum, checked_difference}
use Rattle.tetri_num.specs.declared.places.Kind.TheVariants as Kind
use Rattle.tetri_ip.specs.Points.{Bounds, number_at, right_of, terms_of}
use Rattle.tetri_ip.specs.declared.programs.Program.{Program}
use Rattle.tetri_ip.specs.declared.programs.Row.{Row}
use Rattle.tetri_simplex.proofs.BasicValues.{basic_solves}
use Rattle.tetri_simplex.proofs.Kept.{IsKept}
use Rattle.tetri_dictionary.proofs.DictionaryLaws.{Solves, then_ok_pair, or_place_is, checked_sum_is, NotBelow, AtMost, zero_not_below}
use Rattle.tetri_simplex.proofs.Placed.{IsBox}
use Rattle.tetri_simplex.proofs.RelaxedRows.{point_at, widths_less, slack_at_point, bounds_at_point, objective_at_point}
use Rattle.tetri_simplex.proofs.WholeWeights.{AreNotBelow}
use Rattle.tetri_dictionary.specs.Choices.{leaving, leaving_from}
use Rattle.tetri_simplex.specs.Ends.{value_at, point_from}
use Rattle.tetri_simplex.specs.Relaxation.{IsRelaxedPoint, left_value, objective_value}
use Rattle.tetri_dictionary.specs.Start.{corner, slack_row, bound_rows, objective_row, first_rows, first_table}
use Rattle.tetri_dictionary.specs.Steps.{or_place}
use Rattle.tetri_base.specs.ResultSteps.{then_ok}
use Rattle.tetri_dictionary.specs.Tables.{Table, constant_of, objective_of, is_negative}
use Rattle.std.proofs.lemmas.List.{length-map, map-append}
use Rattle.std.proofs.lemmas.List.FromFn.{length-range_with_len}

-- ---- where no place leaves, no value is below 0
not_negative : (c : ℚ) → is_negative c ≡ false → NotBelow c
not_negative c e = record { sign = above c.num e }
  where
    above : (n : ℤ) → lt_z n (pos 0) ≡ false → pos 0 ≤ℤ n
    above n e = let h = lt-false n (pos 0) e in omega (arith, ints)

some_stays : (vs : List ℕ) (k : ℕ) (bs : List ℕ) (rows : List (List ℚ)) (i : ℕ) → leaving_from vs k bs rows (Some i) ≡ None → ⊥
some_stays vs k [] rows i e = cc
some_stays vs k (b ∷ bs) [] i e = cc
some_stays vs k (b ∷ bs) (row ∷ rows) i e = by_test (is_negative (constant_of row)) (nat_lt (get_or vs k 0) (get_or vs i 0)) (some_stays vs (k + 1) bs rows) e
  where
    by_test : (t s : Bool) → ((n : ℕ) → leaving_from vs (k + 1) bs rows (Some n) ≡ None → ⊥) → leaving_from vs (k + 1) bs rows (cond t (cond s (Some k) (Some i)) (Some i)) ≡ None → ⊥
    by_test true true ih f = ih k f
    by_test true false ih f = ih i f
    by_test false s ih f = ih i f

value_sign : (vs : List ℕ) (k : ℕ) (bs : List ℕ) (rows : List (List ℚ)) → leaving_from vs k bs rows None ≡ None → (v : ℕ) → NotBelow (value_at bs rows v)
value_sign vs k [] rows e v = zero_not_below
value_sign vs k (b ∷ bs) [] e v = zero_not_below
value_sign vs k (b ∷ bs) (row ∷ rows) e v = by_test (is_negative (constant_of row)) refl (λ f. value_sign vs (k + 1) bs rows f v) e
  where
    by_place : (t : Bool) → NotBelow (constant_of row) → NotBelow (value_at bs rows v) → NotBelow (cond t (constant_of row) (value_at bs rows v))
    by_place true h g = h
    by_place false h g = g

    by_test : (t : Bool) → is_negative (constant_of row) ≡ t → (leaving_from vs (k + 1) bs rows None ≡ None → NotBelow (value_at bs rows v)) → leaving_from vs (k + 1) bs rows (cond t (Some k) None) ≡ None → NotBelow (value_at (b ∷ bs) (row ∷ rows) v)
    by_test true h ih f = absurd (some_stays vs (k + 1) bs rows k f)
    by_test false h ih f = by_place (eqb b v) (not_negative (constant_of row) h) (ih f)

signs_of : (f : ℕ → ℚ) (vs : List ℕ) → ((v : ℕ) → NotBelow (f v)) → AreNotBelow (map f vs)
signs_of f [] h = tt
signs_of f (v ∷ vs) h = (h v, signs_of f vs h)

-- ---- lists
last_same : (xs ys : List ℚ) (a b : ℚ) → xs ++ (a ∷ []) ≡ ys ++ (b ∷ []) → (xs ≡ ys) × (a ≡ b)
last_same [] [] a b e = (refl, cc)
last_same [] (y ∷ ys) a b e = absurd (none ys b cc)
  where
    none : (ys : List ℚ) (b : ℚ) → [] ≡ ys ++ (b ∷ []) → ⊥
    none [] b e = cc
    none (y ∷ ys) b e = cc
last_same (x ∷ xs) [] a b e = absurd (none xs a cc)
  where
    none : (ys : List ℚ) (b : ℚ) → ys ++ (b ∷ []) ≡ [] → ⊥
    none [] b e = cc
    none (y ∷ ys) b e = cc
last_same (x ∷ xs) (y ∷ ys) a b e =
    let h : x ≡ y = cc in
    let r = last_same xs ys a b cc in
    (ap (λ z. z ∷ xs) h ∙ ap (λ zs. y ∷ zs) r.0, r.1)

record IsSplit (rows : List (List ℚ)) (n : ℕ) : Type 0 where
  front : List (List ℚ)
  whole : rows ≡ front ++ (get_or rows n [] ∷ [])
  count : length front ≡ n

split_last : (n : ℕ) (rows : List (List ℚ)) → length rows ≡ n + 1 → IsSplit rows n
split_last n [] h = absurd (omega arith)
split_last zero (r ∷ []) h = record { front = []; whole = refl; count = refl }
split_last zero (r ∷ (s ∷ rows)) h = absurd (omega arith)
split_last (suc n) (r ∷ rows) h =
    let s = split_last n rows (omega arith) in
    record { front = r ∷ s.front; whole = ap (λ zs. r ∷ zs) s.whole; count = ap suc s.count }

left_signs : (xs ys : List ℚ) → AreNotBelow (xs ++ ys) → AreNotBelow xs
left_signs [] ys h = tt
left_signs (x ∷ xs) ys h = (h.0, left_signs xs ys h.1)

right_signs : (xs ys : List ℚ) → AreNotBelow (xs ++ ys) → AreNotBelow ys
right_signs [] ys h = h
right_signs (x ∷ xs) ys h = right_signs xs ys h.1

-- ---- the point that is formed
pub point_is : (bs : List ℕ) (rows : List (List ℚ)) (j : ℕ) (cs ls us : List ℤ) (xs : List ℚ) → IsBox cs ls us → point_from bs rows j cs ls us ≡ Ok xs → xs ≡ point_at cs ls us (map (value_at bs rows) (range_with_len j (length cs)))
point_is bs rows j [] [] [] xs h e = cc
point_is bs rows j (c ∷ cs) (l ∷ ls) (u ∷ us) xs h e =
    let y = value_at bs rows j in
    let o : Option ℚ = cond (lt_z (pos 0) c) (checked_difference (whole_ℚ u) y) (checked_sum (whole_ℚ l) y) in
    let a = then_ok_pair (or_place o Kind.Point 0 j) (λ x. then_ok (point_from bs rows (j + 1) cs ls us) (λ xs. Ok (x ∷ xs))) xs e in
    let b = then_ok_pair (point_from bs rows (j + 1) cs ls us) (λ xs. Ok (a.0 ∷ xs)) xs a.1.1 in
    let s : xs ≡ a.0 ∷ b.0 = cc in
    let x : a.0 ≡ cond (lt_z (pos 0) c) (◌+ℚ◌ (whole_ℚ u) (neg_ℚ y)) (◌+ℚ◌ (whole_ℚ l) y) = by_test (lt_z (pos 0) c) y a.0 (or_place_is o Kind.Point 0 j a.0 a.1.0) in
    s ∙ ap (λ z. z ∷ b.0) x ∙ ap (λ zs. cond (lt_z (pos 0) c) (◌+ℚ◌ (whole_ℚ u) (neg_ℚ y)) (◌+ℚ◌ (whole_ℚ l) y) ∷ zs) (point_is bs rows (j + 1) cs ls us b.0 h.1 b.1.0)
  where
    by_test : (t : Bool) (y x : ℚ) → cond t (checked_difference (whole_ℚ u) y) (checked_sum (whole_ℚ l) y) ≡ Some x → x ≡ cond t (◌+ℚ◌ (whole_ℚ u) (neg_ℚ y)) (◌+ℚ◌ (whole_ℚ l) y)
    by_test true y x f = checked_sum_is (whole_ℚ u) (neg_ℚ y) x f
    by_test false y x f = checked_sum_is (whole_ℚ l) y x f
point_is bs rows j cs ls us xs h e = absurd h

-- ---- in the box
pub nonnegative : (d : ℚ) → NotBelow d → zero_ℚ ≤ℚ d
unfolding whole_ℚ
nonnegative d h = record { cross = cross d.num d.den h.sign }
  where
    cross : (n : ℤ) (d : ℕ) → pos 0 ≤ℤ n → (pos 0 *ℤ pos d) ≤ℤ (n *ℤ pos 1)
    cross n d h = omega (arith, ints)

pub at_most : (p q : ℚ) → AtMost p q → p ≤ℚ q
at_most p q h =
    let d = ◌+ℚ◌ q (neg_ℚ p) in
    subst (λ z. z ≤ℚ q) (ring ℚ_ring (p ∷ []) (nil ⊕ var 0) (var 0) refl)
    (subst (λ z. ◌+ℚ◌ zero_ℚ p ≤ℚ z) (ring ℚ_ring (p ∷ q ∷ []) ((var 1 ⊕ minus (var 0)) ⊕ var 0) (var 1) refl) (+ℚ-≤ℚ zero_ℚ d p (nonnegative d h)))

widths_sign : (ys : List ℚ) (j : ℕ) (cs ls us : List ℤ) → IsBox cs ls us → AreNotBelow (widths_less ys j ls us) → (k : ℕ) → k < length cs →
    NotBelow (◌+ℚ◌ (◌+ℚ◌ (whole_ℚ (number_at us k)) (neg_ℚ (whole_ℚ (number_at ls k)))) (neg_ℚ (get_or ys (j + k) zero_ℚ)))
widths_sign ys j [] [] [] b h k l = absurd (omega arith)
widths_sign ys j (c ∷ cs) (l ∷ ls) (u ∷ us) b h zero m = subst (λ n. NotBelow (◌+ℚ◌ (◌+ℚ◌ (whole_ℚ u) (neg_ℚ (whole_ℚ l))) (neg_ℚ (get_or ys n zero_ℚ)))) (plus_zero j) h.0
  where
    plus_zero : (j : ℕ) → j ≡ j + 0
    plus_zero j = omega arith
widths_sign ys j (c ∷ cs) (l ∷ ls) (u ∷ us) b h (suc k) m =
    subst (λ n. NotBelow (◌+ℚ◌ (◌+ℚ◌ (whole_ℚ (number_at us k)) (neg_ℚ (whole_ℚ (number_at ls k)))) (neg_ℚ (get_or ys n zero_ℚ)))) (plus_suc j k) (widths_sign ys (j + 1) cs ls us b.1 h.1 k (omega arith))
  where
    plus_suc : (j k : ℕ) → j + 1 + k ≡ j + suc k
    plus_suc j k = omega arith
widths_sign ys j cs ls us b h k l = absurd b

record IsInside (l u : ℤ) (x : ℚ) : Type 0 where
  above : whole_ℚ l ≤ℚ x
  below : x ≤ℚ whole_ℚ u

inside_one : (t : Bool) (l u : ℤ) (y : ℚ) → NotBelow y → NotBelow (◌+ℚ◌ (◌+ℚ◌ (whole_ℚ u) (neg_ℚ (whole_ℚ l))) (neg_ℚ y)) → IsInside l u (cond t (◌+ℚ◌ (whole_ℚ u) (neg_ℚ y)) (◌+ℚ◌ (whole_ℚ l) y))
inside_one true l u y h w = record {
  above = at_most (whole_ℚ l) (◌+ℚ◌ (whole_ℚ u) (neg_ℚ y)) (subst NotBelow (ring ℚ_ring (whole_ℚ u ∷ whole_ℚ l ∷ y ∷ []) ((var 0 ⊕ minus (var 1)) ⊕ minus (var 2)) ((var 0 ⊕ minus (var 2)) ⊕ minus (var 1)) refl) w);
  below = at_most (◌+ℚ◌ (whole_ℚ u) (neg_ℚ y)) (whole_ℚ u) (subst NotBelow (ring ℚ_ring (whole_ℚ u ∷ y ∷ []) (var 1) (var 0 ⊕ minus (var 0 ⊕ minus (var 1))) refl) h);
}
inside_one false l u y h w = record {
  above = at_most (whole_ℚ l) (◌+ℚ◌ (whole_ℚ l) y) (subst NotBelow (ring ℚ_ring (whole_ℚ l ∷ y ∷ []) (var 1) ((var 0 ⊕ var 1) ⊕ minus (var 0)) refl) h);
  below = at_most (◌+ℚ◌ (whole_ℚ l) y) (whole_ℚ u) (subst NotBelow (ring ℚ_ring (whole_ℚ u ∷ whole_ℚ l ∷ y ∷ []) ((var 0 ⊕ minus (var 1)) ⊕ minus (var 2)) (var 0 ⊕ minus (var 1 ⊕ var 2)) refl) w);
}

point_inside : (cs ls us : List ℤ) (ys : List ℚ) → IsBox cs ls us → length ys ≡ length cs → AreNotBelow ys →
    ((k : ℕ) → k < length cs → NotBelow (◌+ℚ◌ (◌+ℚ◌ (whole_ℚ (number_at us k)) (neg_ℚ (whole_ℚ (number_at ls k)))) (neg_ℚ (get_or ys k zero_ℚ)))) →
    (k : ℕ) → k < length cs → IsInside (number_at ls k) (number_at us k) (get_or (point_at cs ls us ys) k zero_ℚ)
point_inside [] [] [] ys b e h w k l = absurd (omega arith)
point_inside (c ∷ cs) (l ∷ ls) (u ∷ us) [] b e h w k m = absurd (omega arith)
point_inside (c ∷ cs) (l ∷ ls) (u ∷ us) (y ∷ ys) b e h w zero m = inside_one (lt_z (pos 0) c) l u y h.0 (w 0 (omega arith))
point_inside (c ∷ cs) (l ∷ ls) (u ∷ us) (y ∷ ys) b e h w (suc k) m = point_inside cs ls us ys b.1 (omega arith) h.1 (λ i n. w (suc i) (omega arith)) k (omega arith)
point_inside cs ls us ys b e h w k l = absurd b

point_length : (cs ls us : List ℤ) (ys : List ℚ) → IsBox cs ls us → length ys ≡ length cs → length (point_at cs ls us ys) ≡ length cs
point_length [] [] [] ys b e = refl
point_length (c ∷ cs) (l ∷ ls) (u ∷ us) [] b e = absurd (omega arith)
point_length (c ∷ cs) (l ∷ ls) (u ∷ us) (y ∷ ys) b e = ap suc (point_length cs ls us ys b.1 (omega arith))
point_length cs ls us ys b e = absurd b

-- ---- each row met
abbrev slack_values : List Row → List ℚ → List ℚ
slack_values rows x = map (λ (row : Row). ◌+ℚ◌ (whole_ℚ row.right) (neg_ℚ (left_value row.terms.items x))) rows

slacks_at_point : (rows : List Row) (cs ls us : List ℤ) (ys : List ℚ) → IsBox cs ls us → length ys ≡ length cs →
    map (λ row. dot ℚ_ring row (whole_ℚ (pos 1) ∷ ys)) (map (map whole_ℚ) (map (slack_row cs (corner cs ls us)) rows)) ≡ slack_values rows (point_at cs ls us ys)
slacks_at_point [] cs ls us ys b e = refl
slacks_at_point (r ∷ rows) cs ls us ys b e =
    ap (λ z. z ∷ map (λ row. dot ℚ_ring row (whole_ℚ (pos 1) ∷ ys)) (map (map whole_ℚ) (map (slack_row cs (corner cs ls us)) rows))) (slack_at_point r cs ls us ys b e)
    ∙ ap (λ zs. ◌+ℚ◌ (whole_ℚ r.right) (neg_ℚ (left_value r.terms.items (point_at cs ls us ys))) ∷ zs) (slacks_at_point rows cs ls us ys b e)

rows_met : (rows : List Row) (x : List ℚ) → AreNotBelow (slack_values rows x) → (k : ℕ) → k < length rows → left_value (terms_of rows k) x ≤ℚ whole_ℚ (right_of rows k)
rows_met [] x h k l = absurd (omega arith)
rows_met (r ∷ rows) x h zero l = at_most (left_value r.terms.items x) (whole_ℚ r.right) h.0
rows_met (r ∷ rows) x h (suc k) l = rows_met rows x h.1 k (omega arith)

-- ---- the basic solution
abbrev pub basic_point : Program → Bounds → Table → List ℚ
basic_point p r t = point_at p.costs.items r.lower r.upper (map (value_at t.basic t.rows) (range_with_len 0 (length p.costs.items)))

pub record IsBasicPoint (p : Program) (r : Bounds) (t : Table) : Type 0 where
  pub relaxed : IsRelaxedPoint p r (basic_point p r t)
  pub worth : objective_value p (basic_point p r t) ≡ constant_of (objective_of t)

first_values : (p : Program) (r : Bounds) (val : ℕ → ℚ) (z : ℚ) → IsBox p.costs.items r.lower r.upper → Solves val z (first_table p r) →
    let ys = map val (range_with_len 0 (length p.costs.items)) in
    let x = point_at p.costs.items r.lower r.upper ys in
    (slack_values p.rows.items x ++ widths_less ys 0 r.lower r.upper) ++ (objective_value p x ∷ []) ≡ map val (range_with_len (length p.costs.items) (length p.rows.items + length p.costs.items)) ++ (z ∷ [])
unfolding first_table
first_values p r val z box sol =
    let cs = p.costs.items in let ls = r.lower in let us = r.upper in
    let n = length cs in
    let ys = map val (range_with_len 0 n) in
    let ly : length ys ≡ n = length-map (range_with_len 0 n) val ∙ length-range_with_len 0 n in
    let x = point_at cs ls us ys in
    let M : List ℤ → List ℚ = map whole_ℚ in
    let g : List ℚ → ℚ = λ row. dot ℚ_ring row (whole_ℚ (pos 1) ∷ ys) in
    let A1 = map (slack_row cs (corner cs ls us)) p.rows.items in
    let A2 = bound_rows 0 cs ls us in
    let o = objective_row cs (corner cs ls us) in
    let rows : map g (map M (first_rows p r)) ≡ (slack_values p.rows.items x ++ widths_less ys 0 ls us) ++ (objective_value p x ∷ []) =
    ap (map g) (map-append M (A1 ++ A2) (o ∷ []) ∙ ap (λ z. z ++ (M o ∷ [])) (map-append M A1 A2))
    ∙ map-append g (map M A1 ++ map M A2) (M o ∷ []) ∙ ap (λ z. z ++ (g (M o) ∷ [])) (map-append g (map M A1) (map M A2))
    ∙ ap (λ z. (z ++ map g (map M A2)) ++ (g (M o) ∷ [])) (slacks_at_point p.rows.items cs ls us ys box ly)
    ∙ ap (λ z. (slack_values p.rows.items x ++ z) ++ (g (M o) ∷ [])) (bounds_at_point ys cs 0 ls us ly)
    ∙ ap (λ z. (slack_values p.rows.items x ++ widths_less ys 0 ls us) ++ (z ∷ [])) (objective_at_point cs ls us ys box ly) in
    sym rows ∙ sol

pub basic_point_is : (p : Program) (r : Bounds) (t : Table) → IsBox p.costs.items r.lower r.upper → IsKept p r t → leaving t ≡ None → IsBasicPoint p r t
unfolding leaving
basic_point_is p r t box k e =
    let n = length p.costs.items in
    let m = length p.rows.items in
    let val = value_at t.basic t.rows in
    let z = constant_of (objective_of t) in
    let s = split_last (length t.basic) t.rows k.count in
    let sol = basic_solves t s.front (objective_of t) s.whole s.count k.once in
    let v = last_same _ _ _ _ (first_values p r val z box (k.back val z sol)) in
    let ys = map val (range_with_len 0 n) in
    let ly : length ys ≡ n = length-map (range_with_len 0 n) val ∙ length-range_with_len 0 n in
    let x = basic_point p r t in
    let sign = value_sign t.basic 0 t.basic t.rows e in
    let all = subst AreNotBelow (sym v.0) (signs_of val (range_with_len n (m + n)) sign) in
    let slacks = left_signs (slack_values p.rows.items x) (widths_less ys 0 r.lower r.upper) all in
    let widths = widths_sign ys 0 p.costs.items r.lower r.upper box (right_signs (slack_values p.rows.items x) (widths_less ys 0 r.lower r.upper) all) in
    let inside = point_inside p.costs.items r.lower r.upper ys box ly (signs_of val (range_with_len 0 n) sign)
    (λ i l. subst (λ q. NotBelow (◌+ℚ◌ (◌+ℚ◌ (whole_ℚ (number_at r.upper i)) (neg_ℚ (whole_ℚ (number_at r.lower i)))) (neg_ℚ (get_or ys q zero_ℚ)))) (zero_plus i) (widths i l)) in
    record {
      relaxed = record {
        count = point_length p.costs.items r.lower r.upper ys box ly;
        above = λ j l. (inside j l).above;
        below = λ j l. (inside j l).below;
        met = rows_met p.rows.items x slacks;
      };
      worth = v.1;
    }
  where
    zero_plus : (i : ℕ) → 0 + i ≡ i
    zero_plus i = omega arith

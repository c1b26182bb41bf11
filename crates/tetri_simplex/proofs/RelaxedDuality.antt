-- Weak duality at the points of the relaxation: q times the objective is at most the weighed number.
use Rattle.std.proofs.Common.{◌≡◌, ℕ, ◌+◌, ◌<◌, refl, sym, ap, ◌∙◌, subst, arith, List, [], ◌∷◌, cond, Bool, true, false, map, length, get_or}
use Rattle.std.specs.Prelude.{◌≤ℤ◌}
use Prim.Native.Nat.{suc}
use Rattle.std.proofs.lemmas.Int.{ints}
use borrow.Author.Differences.{lt-true, lt-false}
use lib.IntN.{ℤ, pos, ◌+ℤ◌, ◌-ℤ◌, ◌*ℤ◌, neg_ℤ}
use lib.Signed.{lt_z}
use Rattle.tetri_algebra.specs.Rational.{ℚ, whole_ℚ}
use Rattle.tetri_algebra.specs.RationalRing.{ℚ_ring, zero_ℚ, ◌+ℚ◌, ◌*ℚ◌, neg_ℚ, whole_ℚ-+ℤ, whole_ℚ-*ℤ}
use Rattle.tetri_algebra.specs.RationalOrder.{◌≤ℚ◌, ≤ℚ_refl, ≤ℚ_from_≡, ≤ℚ_trans, +ℚ-≤ℚ_both, *ℚ-≤ℚ_of_nonnegative, *ℚ-≤ℚ_of_nonpositive, whole_ℚ-≤ℚ}
use Rattle.tetri_algebra.specs.RingSolver.{var, num, nil, minus, ring, ◌⊕◌, ◌⊗◌}
use Rattle.tetri_algebra.specs.Sums.{dot, dot_from, dot_from-mul, dot_from-sum_over, sum_over, same_sum_over}
use Rattle.tetri_ip.specs.Points.{Bounds, number_at, coefficient, right_of, terms_of}
use Rattle.tetri_ip.specs.Weighed.{bound_taken, column_sum, columns_from, right_sum, weighed}
use Rattle.tetri_ip.specs.declared.programs.Program.{Program}
use Rattle.tetri_ip.specs.declared.programs.Row.{Row}
use Rattle.tetri_ip.specs.declared.programs.Weight.{Weight}
use Rattle.tetri_simplex.proofs.RelaxedRows.{same_dot_from, dot_from-left_value}
use Rattle.tetri_simplex.proofs.Sound.{neg_whole}
use Rattle.tetri_simplex.proofs.WeightSigns.{AreRowWeights}
use Rattle.tetri_simplex.specs.Relaxation.{IsRelaxedPoint, left_value, objective_value}

-- ---- a product is at most that with the bound taken
bounded_product : (d : ℤ) (x : ℚ) (l u : ℤ) → whole_ℚ l ≤ℚ x → x ≤ℚ whole_ℚ u → ◌*ℚ◌ (whole_ℚ d) x ≤ℚ whole_ℚ (d *ℤ cond (lt_z (pos 0) d) u l)
bounded_product d x l u h k = by_test (lt_z (pos 0) d) refl
  where
    above : lt_z (pos 0) d ≡ true → pos 0 ≤ℤ d
    above e = let h = lt-true (pos 0) d e in omega (arith, ints)

    below : lt_z (pos 0) d ≡ false → d ≤ℤ pos 0
    below e = let h = lt-false (pos 0) d e in omega (arith, ints)

    by_test : (t : Bool) → lt_z (pos 0) d ≡ t → ◌*ℚ◌ (whole_ℚ d) x ≤ℚ whole_ℚ (d *ℤ cond t u l)
    by_test true e = subst (λ z. ◌*ℚ◌ (whole_ℚ d) x ≤ℚ z) (sym (whole_ℚ-*ℤ d u)) (*ℚ-≤ℚ_of_nonnegative (whole_ℚ d) x (whole_ℚ u) (whole_ℚ-≤ℚ (pos 0) d (above e)) k)
    by_test false e = subst (λ z. ◌*ℚ◌ (whole_ℚ d) x ≤ℚ z) (sym (whole_ℚ-*ℤ d l)) (*ℚ-≤ℚ_of_nonpositive (whole_ℚ d) (whole_ℚ l) x (whole_ℚ-≤ℚ d (pos 0) (below e)) h)

-- ---- the columns from number j on: their costs at the point are at most the weighted sums and the bounds
columns_bound : (rows : List Row) (b : Bounds) (q : ℤ) (ws : List Weight) (j : ℕ) (cs : List ℤ) (xs : List ℚ) → length xs ≡ length cs →
    ((k : ℕ) → k < length cs → whole_ℚ (number_at b.lower (j + k)) ≤ℚ get_or xs k zero_ℚ) →
    ((k : ℕ) → k < length cs → get_or xs k zero_ℚ ≤ℚ whole_ℚ (number_at b.upper (j + k))) →
    ◌*ℚ◌ (whole_ℚ q) (dot ℚ_ring (map whole_ℚ cs) xs) ≤ℚ ◌+ℚ◌ (dot_from ℚ_ring (λ k. whole_ℚ (column_sum rows ws k)) j xs) (whole_ℚ (columns_from rows b q ws j cs))
columns_bound rows b q ws j [] [] e h k = ≤ℚ_from_≡ _ _ (ring ℚ_ring (whole_ℚ q ∷ []) (var 0 ⊗ nil) (nil ⊕ num (pos 0)) refl)
columns_bound rows b q ws j [] (x ∷ xs) e h k = absurd (omega arith)
columns_bound rows b q ws j (c ∷ cs) [] e h k = absurd (omega arith)
columns_bound rows b q ws j (c ∷ cs) (x ∷ xs) e h k =
    let f = column_sum rows ws j in
    let d = q *ℤ c -ℤ f in
    let D = whole_ℚ d in
    let Q = whole_ℚ q in
    let S = dot ℚ_ring (map whole_ℚ cs) xs in
    let F = dot_from ℚ_ring (λ k. whole_ℚ (column_sum rows ws k)) (j + 1) xs in
    let t = whole_ℚ (d *ℤ bound_taken b j d) in
    let C = whole_ℚ (columns_from rows b q ws (j + 1) cs) in
    let h0 = subst (λ n. whole_ℚ (number_at b.lower n) ≤ℚ x) (plus_zero j) (h 0 (omega arith)) in
    let k0 = subst (λ n. x ≤ℚ whole_ℚ (number_at b.upper n)) (plus_zero j) (k 0 (omega arith)) in
    let a = bounded_product d x (number_at b.lower j) (number_at b.upper j) h0 k0 in
    let rest = columns_bound rows b q ws (j + 1) cs xs (omega arith)
    (λ i l. subst (λ n. whole_ℚ (number_at b.lower n) ≤ℚ get_or xs i zero_ℚ) (plus_suc j i) (h (suc i) (omega arith)))
    (λ i l. subst (λ n. get_or xs i zero_ℚ ≤ℚ whole_ℚ (number_at b.upper n)) (plus_suc j i) (k (suc i) (omega arith))) in
    let de : D ≡ ◌+ℚ◌ (◌*ℚ◌ Q (whole_ℚ c)) (neg_ℚ (whole_ℚ f)) =
    whole_ℚ-+ℤ (q *ℤ c) (neg_ℤ f) ∙ ap (λ z. ◌+ℚ◌ z (whole_ℚ (neg_ℤ f))) (whole_ℚ-*ℤ q c) ∙ ap (λ z. ◌+ℚ◌ (◌*ℚ◌ Q (whole_ℚ c)) z) (sym (neg_whole f)) in
    let fx = ◌*ℚ◌ (whole_ℚ f) x in
    let left : ◌*ℚ◌ Q (◌+ℚ◌ (◌*ℚ◌ (whole_ℚ c) x) S) ≡ ◌+ℚ◌ (◌+ℚ◌ (◌*ℚ◌ D x) fx) (◌*ℚ◌ Q S) =
    ring ℚ_ring (Q ∷ whole_ℚ c ∷ x ∷ S ∷ whole_ℚ f ∷ []) (var 0 ⊗ (var 1 ⊗ var 2 ⊕ var 3)) (((var 0 ⊗ var 1 ⊕ minus (var 4)) ⊗ var 2 ⊕ var 4 ⊗ var 2) ⊕ var 0 ⊗ var 3) refl
    ∙ ap (λ z. ◌+ℚ◌ (◌+ℚ◌ (◌*ℚ◌ z x) fx) (◌*ℚ◌ Q S)) (sym de) in
    let right : ◌+ℚ◌ (◌+ℚ◌ t fx) (◌+ℚ◌ F C) ≡ ◌+ℚ◌ (◌+ℚ◌ fx F) (whole_ℚ (d *ℤ bound_taken b j d +ℤ columns_from rows b q ws (j + 1) cs)) =
    ring ℚ_ring (t ∷ fx ∷ F ∷ C ∷ []) ((var 0 ⊕ var 1) ⊕ (var 2 ⊕ var 3)) ((var 1 ⊕ var 2) ⊕ (var 0 ⊕ var 3)) refl
    ∙ ap (λ z. ◌+ℚ◌ (◌+ℚ◌ fx F) z) (sym (whole_ℚ-+ℤ (d *ℤ bound_taken b j d) (columns_from rows b q ws (j + 1) cs))) in
    subst (λ z. ◌*ℚ◌ Q (◌+ℚ◌ (◌*ℚ◌ (whole_ℚ c) x) S) ≤ℚ z) right
    (subst (λ z. z ≤ℚ ◌+ℚ◌ (◌+ℚ◌ t fx) (◌+ℚ◌ F C)) (sym left)
    (+ℚ-≤ℚ_both (◌+ℚ◌ (◌*ℚ◌ D x) fx) (◌+ℚ◌ t fx) (◌*ℚ◌ Q S) (◌+ℚ◌ F C) (+ℚ-≤ℚ_both (◌*ℚ◌ D x) t fx fx a (≤ℚ_refl fx)) rest))
  where
    plus_zero : (j : ℕ) → j + 0 ≡ j
    plus_zero j = omega arith

    plus_suc : (j i : ℕ) → j + suc i ≡ j + 1 + i
    plus_suc j i = omega arith

-- ---- the weighted sum of the left sides
abbrev left_values : List Row → List Weight → List ℚ → ℚ
left_values rows ws xs = sum_over ℚ_ring (λ (w : Weight). ◌*ℚ◌ (whole_ℚ w.by) (left_value (terms_of rows w.row) xs)) ws

whole_column_sum : (rows : List Row) (ws : List Weight) (j : ℕ) → whole_ℚ (column_sum rows ws j) ≡ sum_over ℚ_ring (λ (w : Weight). ◌*ℚ◌ (whole_ℚ w.by) (whole_ℚ (coefficient (terms_of rows w.row) j))) ws
whole_column_sum rows [] j = refl
whole_column_sum rows (w ∷ ws) j =
    whole_ℚ-+ℤ (w.by *ℤ coefficient (terms_of rows w.row) j) (column_sum rows ws j)
    ∙ ap (λ z. ◌+ℚ◌ z (whole_ℚ (column_sum rows ws j))) (whole_ℚ-*ℤ w.by (coefficient (terms_of rows w.row) j))
    ∙ ap (λ z. ◌+ℚ◌ (◌*ℚ◌ (whole_ℚ w.by) (whole_ℚ (coefficient (terms_of rows w.row) j))) z) (whole_column_sum rows ws j)

columns_sum : (rows : List Row) (ws : List Weight) (xs : List ℚ) → dot_from ℚ_ring (λ k. whole_ℚ (column_sum rows ws k)) 0 xs ≡ left_values rows ws xs
columns_sum rows ws xs =
    same_dot_from (λ k. whole_ℚ (column_sum rows ws k)) (λ k. sum_over ℚ_ring (λ (w : Weight). ◌*ℚ◌ (whole_ℚ w.by) (whole_ℚ (coefficient (terms_of rows w.row) k))) ws) 0 xs (whole_column_sum rows ws)
    ∙ dot_from-sum_over ℚ_ring (λ (w : Weight) k. ◌*ℚ◌ (whole_ℚ w.by) (whole_ℚ (coefficient (terms_of rows w.row) k))) ws 0 xs
    ∙ same_sum_over ℚ_ring (λ (w : Weight). dot_from ℚ_ring (λ k. ◌*ℚ◌ (whole_ℚ w.by) (whole_ℚ (coefficient (terms_of rows w.row) k))) 0 xs) (λ (w : Weight). ◌*ℚ◌ (whole_ℚ w.by) (left_value (terms_of rows w.row) xs)) ws
    (λ w. dot_from-mul ℚ_ring (whole_ℚ w.by) (λ k. whole_ℚ (coefficient (terms_of rows w.row) k)) 0 xs ∙ ap (λ z. ◌*ℚ◌ (whole_ℚ w.by) z) (dot_from-left_value (terms_of rows w.row) xs))

rows_bound : (rows : List Row) (ws : List Weight) (xs : List ℚ) → AreRowWeights (length rows) ws → ((k : ℕ) → k < length rows → left_value (terms_of rows k) xs ≤ℚ whole_ℚ (right_of rows k)) →
    left_values rows ws xs ≤ℚ whole_ℚ (right_sum rows ws)
rows_bound rows [] xs a m = ≤ℚ_refl zero_ℚ
rows_bound rows (w ∷ ws) xs a m =
    let B = whole_ℚ w.by in
    let L = left_value (terms_of rows w.row) xs in
    let R = whole_ℚ (right_of rows w.row) in
    subst (λ z. ◌+ℚ◌ (◌*ℚ◌ B L) (left_values rows ws xs) ≤ℚ z)
    (ap (λ z. ◌+ℚ◌ z (whole_ℚ (right_sum rows ws))) (sym (whole_ℚ-*ℤ w.by (right_of rows w.row))) ∙ sym (whole_ℚ-+ℤ (w.by *ℤ right_of rows w.row) (right_sum rows ws)))
    (+ℚ-≤ℚ_both (◌*ℚ◌ B L) (◌*ℚ◌ B R) (left_values rows ws xs) (whole_ℚ (right_sum rows ws))
    (*ℚ-≤ℚ_of_nonnegative B L R (whole_ℚ-≤ℚ (pos 0) w.by a.0.0) (m w.row a.0.1)) (rows_bound rows ws xs a.1 m))

pub relaxed_duality : (p : Program) (b : Bounds) (q : ℤ) (ws : List Weight) (point : List ℚ) → AreRowWeights (length p.rows.items) ws → IsRelaxedPoint p b point →
    ◌*ℚ◌ (whole_ℚ q) (objective_value p point) ≤ℚ whole_ℚ (weighed p b q ws)
relaxed_duality p b q ws point a m =
    let rows = p.rows.items in
    let C = whole_ℚ (columns_from rows b q ws 0 p.costs.items) in
    let F = dot_from ℚ_ring (λ k. whole_ℚ (column_sum rows ws k)) 0 point in
    let R = whole_ℚ (right_sum rows ws) in
    let h = columns_bound rows b q ws 0 p.costs.items point m.count
    (λ k l. subst (λ n. whole_ℚ (number_at b.lower n) ≤ℚ get_or point k zero_ℚ) (zero_plus k) (m.above k l))
    (λ k l. subst (λ n. get_or point k zero_ℚ ≤ℚ whole_ℚ (number_at b.upper n)) (zero_plus k) (m.below k l)) in
    let g = subst (λ z. z ≤ℚ R) (sym (columns_sum rows ws point)) (rows_bound rows ws point a m.met) in
    subst (λ z. ◌*ℚ◌ (whole_ℚ q) (objective_value p point) ≤ℚ z) (sym (whole_ℚ-+ℤ (right_sum rows ws) (columns_from rows b q ws 0 p.costs.items)))
    (≤ℚ_trans (◌*ℚ◌ (whole_ℚ q) (objective_value p point)) (◌+ℚ◌ F C) (◌+ℚ◌ R C) h (+ℚ-≤ℚ_both F R C C g (≤ℚ_refl C)))
  where
    zero_plus : (k : ℕ) → k ≡ 0 + k
    zero_plus k = omega arith

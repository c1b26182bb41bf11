-- Each point of a program meets its cuts.
use Rattle.std.proofs.Common.{◌≡◌, ℕ, ◌+◌, ◌<◌, refl, sym, ap, ◌∙◌, subst, arith, List, [], ◌∷◌, length, get_or, Bool, true, false, cond, ◌==◌}
use Prim.Native.Nat.{suc}
use Rattle.std.specs.Prelude.{◌≤ℤ◌, ◌<ℤ◌, unsigned_abs}
use Rattle.std.specs.Int.{int_div_euclid}
use Rattle.std.proofs.lemmas.Bool.{eqb-true}
use Rattle.std.proofs.lemmas.Int.{ints}
use lib.IntN.{ℤ, pos, ◌+ℤ◌, ◌*ℤ◌}
use Rattle.tetri_algebra.specs.IntegerRing.{ℤ_ring}
use Rattle.tetri_algebra.specs.Integers.{mul_le_of_nonnegative, mul_le_right, mul_lt_cancel}
use Rattle.tetri_algebra.specs.OrderedSums.{sum_over-≤ℤ}
use Rattle.tetri_algebra.specs.Quotients.{div_above, div_below}
use Rattle.tetri_algebra.specs.RingSolver.{var, ring, ◌⊕◌, ◌⊗◌}
use Rattle.tetri_algebra.specs.Sums.{dot_from}
use Rattle.tetri_ip.specs.declared.programs.Program.{Program}
use Rattle.tetri_ip.specs.declared.programs.Row.{Row}
use Rattle.tetri_ip.specs.declared.programs.Term.{Term}
use Rattle.tetri_ip.specs.declared.programs.Weight.{Weight}
use Rattle.tetri_ip.specs.Points.{IsPoint, box_of, left_side, number_at, right_of, terms_of}
use Rattle.tetri_ip.specs.Weighed.{AreNotNegative, AreOfRows, column_sum, right_sum}
use Rattle.tetri_ip.proofs.IntegerProgramLaws.{dot_from-column_sum, left_sum}
use Rattle.tetri_cuts.specs.Cuts.{HasNoNegativeBound, cut_right, cut_terms, quotients, sums_from, with_term}

-- a term of 0 adds nothing
left_side-with_term : (j : ℕ) (by : ℤ) (ts : List Term) (point : List ℤ) → left_side (with_term j by ts) point ≡ by *ℤ number_at point j +ℤ left_side ts point
left_side-with_term j by ts point = by_test (unsigned_abs by == 0) refl
  where
    none : (z s : ℤ) → unsigned_abs by ≡ 0 → s ≡ by *ℤ z +ℤ s
    none z s e = let b : by ≡ pos 0 = omega (arith, ints) in rw b (omega (arith, ints))

    by_test : (t : Bool) → unsigned_abs by == 0 ≡ t → left_side (cond t ts (record { column = j; by = by } ∷ ts)) point ≡ by *ℤ number_at point j +ℤ left_side ts point
    by_test true e = none (number_at point j) (left_side ts point) (eqb-true _ _ e)
    by_test false e = refl

-- q times the floor of a sum over q is at most the sum, and so it is times a number that is not below 0
more : (q s x l d : ℤ) → pos 1 ≤ℤ q → pos 0 ≤ℤ x → (q *ℤ l) ≤ℤ d → (q *ℤ (int_div_euclid s q *ℤ x +ℤ l)) ≤ℤ (s *ℤ x +ℤ d)
more q s x l d h k m =
    let t = int_div_euclid s q in
    let positive : pos 0 <ℤ q = omega (arith, ints) in
    let below : (t *ℤ q) ≤ℤ s = div_below s q positive in
    let e : q *ℤ (t *ℤ x +ℤ l) ≡ (t *ℤ q) *ℤ x +ℤ q *ℤ l =
    ring ℤ_ring (q ∷ t ∷ x ∷ l ∷ []) (var 0 ⊗ (var 1 ⊗ var 2 ⊕ var 3)) ((var 1 ⊗ var 0) ⊗ var 2 ⊕ var 0 ⊗ var 3) refl in
    rw e (both ((t *ℤ q) *ℤ x) (s *ℤ x) (q *ℤ l) d (mul_le_right x (t *ℤ q) s k below) m)
  where
    both : (a b c d : ℤ) → a ≤ℤ b → c ≤ℤ d → (a +ℤ c) ≤ℤ (b +ℤ d)
    both a b c d h k = omega (arith, ints)

-- q times the left side of the cut is at most the sum of the columns' sums times their numbers
columns_below : (rows : List Row) (q : ℤ) (ws : List Weight) (point : List ℤ) (j : ℕ) (cs xs : List ℤ) → pos 1 ≤ℤ q → length xs ≡ length cs →
    ((k : ℕ) → number_at point (j + k) ≡ number_at xs k) → ((k : ℕ) → k < length xs → pos 0 ≤ℤ number_at xs k) →
    (q *ℤ left_side (quotients q j (sums_from rows ws j cs)) point) ≤ℤ dot_from ℤ_ring (column_sum rows ws) j xs
columns_below rows q ws point j [] [] h e same low = zero_below q
  where
    zero_below : (q : ℤ) → (q *ℤ pos 0) ≤ℤ pos 0
    zero_below q = omega (arith, ints)
columns_below rows q ws point j [] (x ∷ xs) h e same low = absurd (omega (arith, e))
columns_below rows q ws point j (c ∷ cs) [] h e same low = absurd (omega (arith, e))
columns_below rows q ws point j (c ∷ cs) (x ∷ xs) h e same low =
    let s = column_sum rows ws j in
    let rest = columns_below rows q ws point (j + 1) cs xs h (omega (arith, e)) (λ k. next k (same (suc k))) (λ k l. low (suc k) (omega (arith, l))) in
    let here : number_at point j ≡ x = start (same 0) in
    let sides = left_side-with_term j (int_div_euclid s q) (quotients q (j + 1) (sums_from rows ws (j + 1) cs)) point in
    let read : left_side (quotients q j (sums_from rows ws j (c ∷ cs))) point ≡ int_div_euclid s q *ℤ x +ℤ left_side (quotients q (j + 1) (sums_from rows ws (j + 1) cs)) point =
    sides ∙ ap (λ z. int_div_euclid s q *ℤ z +ℤ left_side (quotients q (j + 1) (sums_from rows ws (j + 1) cs)) point) here in
    subst (λ l. (q *ℤ l) ≤ℤ (s *ℤ x +ℤ dot_from ℤ_ring (column_sum rows ws) (j + 1) xs)) (sym read)
    (more q s x (left_side (quotients q (j + 1) (sums_from rows ws (j + 1) cs)) point) (dot_from ℤ_ring (column_sum rows ws) (j + 1) xs) h (low 0 (omega arith)) rest)
  where
    next : (k : ℕ) → number_at point (j + suc k) ≡ number_at xs k → number_at point (j + 1 + k) ≡ number_at xs k
    next k f = let g : j + 1 + k ≡ j + suc k = omega arith in rw g f

    start : number_at point (j + 0) ≡ x → number_at point j ≡ x
    start f = let g : j ≡ j + 0 = omega arith in ap (number_at point) g ∙ f

-- the weighted sum of the left sides is at most that of the right sides
left_sum_below : (p : Program) (ws : List Weight) (point : List ℤ) → AreOfRows p ws → AreNotNegative ws → IsPoint p (box_of p) point → left_sum p.rows.items ws point ≤ℤ right_sum p.rows.items ws
left_sum_below p ws point rows signs is =
    sum_over-≤ℤ (λ (w : Weight). w.by *ℤ left_side (terms_of p.rows.items w.row) point) (λ (w : Weight). w.by *ℤ right_of p.rows.items w.row) ws
    (λ k d l. mul_le_of_nonnegative (get_or ws k d).by _ _ (signs k d l) (is.met (get_or ws k d).row (rows k d l)))

-- a whole number that is at most b times q is at most the floor
floor_above : (q l b : ℤ) → pos 1 ≤ℤ q → (q *ℤ l) ≤ℤ b → l ≤ℤ int_div_euclid b q
floor_above q l b h k =
    let positive : pos 0 <ℤ q = omega (arith, ints) in
    let above : b <ℤ ((int_div_euclid b q +ℤ pos 1) *ℤ q) = div_above b q positive in
    let swapped : (l *ℤ q) <ℤ ((int_div_euclid b q +ℤ pos 1) *ℤ q) = omega (arith, ints) in
    let less : l <ℤ (int_div_euclid b q +ℤ pos 1) = mul_lt_cancel q l (int_div_euclid b q +ℤ pos 1) positive swapped in
    omega (arith, ints)

pub cut_met : (p : Program) (q : ℤ) (ws : List Weight) → pos 1 ≤ℤ q → HasNoNegativeBound p → AreOfRows p ws → AreNotNegative ws →
    (point : List ℤ) → IsPoint p (box_of p) point → left_side (cut_terms p q ws) point ≤ℤ cut_right p q ws
cut_met p q ws h low rows signs point is =
    floor_above q (left_side (cut_terms p q ws) point) (right_sum p.rows.items ws) h
    (join _ _ _ _ (columns_below p.rows.items q ws point 0 p.costs.items point h is.count same not_below) (dot_from-column_sum p.rows.items ws point) (left_sum_below p ws point rows signs is))
  where
    same : (k : ℕ) → number_at point (0 + k) ≡ number_at point k
    same k = let e : 0 + k ≡ k = omega arith in ap (number_at point) e

    not_below : (k : ℕ) → k < length point → pos 0 ≤ℤ number_at point k
    not_below k l = let m : k < length p.costs.items = omega (arith, is.count) in over _ _ (low k m) (is.inside k m).0
      where
        over : (a b : ℤ) → pos 0 ≤ℤ a → a ≤ℤ b → pos 0 ≤ℤ b
        over a b h k = omega (arith, ints)

    join : (a b c d : ℤ) → a ≤ℤ b → b ≡ c → c ≤ℤ d → a ≤ℤ d
    join a b c d h e k = omega (arith, ints)

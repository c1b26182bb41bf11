-- Weak duality over bounded columns.
use Rattle.std.proofs.Common.{◌≡◌, ℕ, ◌+◌, ◌<◌, refl, ap, ◌∙◌, arith, List, [], ◌∷◌, length, get_or}
use Prim.Native.Nat.{zero, suc}
use Rattle.std.specs.Prelude.{◌≤ℤ◌, ◌<ℤ◌}
use Rattle.std.proofs.lemmas.Int.{ints}
use lib.IntN.{ℤ, pos, ◌+ℤ◌, ◌-ℤ◌, ◌*ℤ◌}
use Rattle.tetri_algebra.specs.IntegerRing.{ℤ_ring}
use Rattle.tetri_algebra.specs.Integers.{mul_le_of_nonnegative}
use Rattle.tetri_algebra.specs.OrderedSums.{sum_over-≤ℤ, mul_le_bound}
use Rattle.tetri_algebra.specs.RingSolver.{var, minus, ring, ◌⊕◌, ◌⊗◌}
use Rattle.tetri_algebra.specs.Sums.{sum_over, same_sum_over, dot, dot_from, dot_from-sum_over, dot_from-mul, dot_from-unit_at, unit_at}
use Rattle.tetri_ip.specs.declared.programs.Program.{Program}
use Rattle.tetri_ip.specs.declared.programs.Row.{Row}
use Rattle.tetri_ip.specs.declared.programs.Weight.{Weight}
use Rattle.tetri_ip.specs.declared.programs.Term.{Term}
use Rattle.tetri_ip.specs.Points.{Bounds, IsPoint, coefficient, left_side, number_at, objective, right_of, terms_of}
use Rattle.tetri_ip.specs.Weighed.{AreNotNegative, bound_taken, column_sum, columns_from, right_sum, weighed}

-- a row's coefficients times the columns' numbers are its left side
pub dot_from-coefficient : (ts : List Term) (xs : List ℤ) → dot_from ℤ_ring (coefficient ts) 0 xs ≡ left_side ts xs
dot_from-coefficient ts xs =
    dot_from-sum_over ℤ_ring (λ (t : Term). unit_at ℤ_ring t.column t.by) ts 0 xs
    ∙ same_sum_over ℤ_ring (λ (t : Term). dot_from ℤ_ring (unit_at ℤ_ring t.column t.by) 0 xs) (λ (t : Term). t.by *ℤ number_at xs t.column) ts
    (λ t. dot_from-unit_at ℤ_ring t.column t.by 0 t.column xs (omega arith))

-- the weighted sum of the left sides
abbrev pub left_sum : List Row → List Weight → List ℤ → ℤ
left_sum rows ws xs = sum_over ℤ_ring (λ (w : Weight). w.by *ℤ left_side (terms_of rows w.row) xs) ws

pub dot_from-column_sum : (rows : List Row) (ws : List Weight) (xs : List ℤ) → dot_from ℤ_ring (column_sum rows ws) 0 xs ≡ left_sum rows ws xs
dot_from-column_sum rows ws xs =
    dot_from-sum_over ℤ_ring (λ (w : Weight) j. w.by *ℤ coefficient (terms_of rows w.row) j) ws 0 xs
    ∙ same_sum_over ℤ_ring (λ (w : Weight). dot_from ℤ_ring (λ j. w.by *ℤ coefficient (terms_of rows w.row) j) 0 xs) (λ (w : Weight). w.by *ℤ left_side (terms_of rows w.row) xs) ws
    (λ w. dot_from-mul ℤ_ring w.by (coefficient (terms_of rows w.row)) 0 xs ∙ ap (λ z. w.by *ℤ z) (dot_from-coefficient (terms_of rows w.row) xs))

-- a row that is not in the program is met by each point
row_met : (rows : List Row) (k : ℕ) (xs : List ℤ) → ((i : ℕ) → i < length rows → left_side (terms_of rows i) xs ≤ℤ right_of rows i) → left_side (terms_of rows k) xs ≤ℤ right_of rows k
row_met [] k xs h = omega (arith, ints)
row_met (r ∷ rs) zero xs h = h zero (omega arith)
row_met (r ∷ rs) (suc k) xs h = row_met rs k xs (λ i l. h (suc i) (omega arith))

left_sum-≤ : (p : Program) (b : Bounds) (ws : List Weight) (xs : List ℤ) → AreNotNegative ws → IsPoint p b xs → left_sum p.rows.items ws xs ≤ℤ right_sum p.rows.items ws
left_sum-≤ p b ws xs h m =
    sum_over-≤ℤ (λ (w : Weight). w.by *ℤ left_side (terms_of p.rows.items w.row) xs) (λ (w : Weight). w.by *ℤ right_of p.rows.items w.row) ws
    (λ k d l. mul_le_of_nonnegative (get_or ws k d).by _ _ (h k d l) (row_met p.rows.items (get_or ws k d).row xs m.met))

add_le : (a b c k m n : ℤ) → a ≤ℤ k → c ≤ℤ (m +ℤ n) → ((a +ℤ b) +ℤ c) ≤ℤ ((b +ℤ m) +ℤ (k +ℤ n))
add_le a b c k m n h p = omega (arith, ints)

-- the columns from number j on: their costs at the point are at most the weighted sums and the bounds
columns_bound : (rows : List Row) (b : Bounds) (q : ℤ) (ws : List Weight) (j : ℕ) (cs xs : List ℤ) → length xs ≡ length cs →
    ((k : ℕ) → k < length cs → number_at b.lower (j + k) ≤ℤ number_at xs k) →
    ((k : ℕ) → k < length cs → number_at xs k ≤ℤ number_at b.upper (j + k)) →
    (q *ℤ dot ℤ_ring cs xs) ≤ℤ (dot_from ℤ_ring (column_sum rows ws) j xs +ℤ columns_from rows b q ws j cs)
columns_bound rows b q ws j [] [] e h k = omega (arith, ints)
columns_bound rows b q ws j [] (x ∷ xs) e h k = absurd (omega arith)
columns_bound rows b q ws j (c ∷ cs) [] e h k = absurd (omega arith)
columns_bound rows b q ws j (c ∷ cs) (x ∷ xs) e h k =
    let f = column_sum rows ws j in
    let d = q *ℤ c -ℤ f in
    let z : j + 0 ≡ j = omega arith in
    let h0 : number_at b.lower j ≤ℤ x = rw z at (h 0 (omega arith)) in
    let k0 : x ≤ℤ number_at b.upper j = rw z at (k 0 (omega arith)) in
    let a = mul_le_bound d x (number_at b.lower j) (number_at b.upper j) h0 k0 in
    let rest = columns_bound rows b q ws (j + 1) cs xs (omega arith) (λ i l. next_lower i (h (suc i) (omega arith))) (λ i l. next_upper i (k (suc i) (omega arith))) in
    let Q = var 0 in let C = var 1 in let X = var 2 in let F = var 3 in let S = var 4 in
    let g : q *ℤ (c *ℤ x +ℤ dot ℤ_ring cs xs) ≡ (d *ℤ x +ℤ f *ℤ x) +ℤ q *ℤ dot ℤ_ring cs xs =
    ring ℤ_ring (q ∷ c ∷ x ∷ f ∷ dot ℤ_ring cs xs ∷ []) (Q ⊗ (C ⊗ X ⊕ S)) (((Q ⊗ C ⊕ minus F) ⊗ X ⊕ F ⊗ X) ⊕ Q ⊗ S) refl in
    rw g (add_le (d *ℤ x) (f *ℤ x) (q *ℤ dot ℤ_ring cs xs) (d *ℤ bound_taken b j d) (dot_from ℤ_ring (column_sum rows ws) (j + 1) xs) (columns_from rows b q ws (j + 1) cs) a rest)
  where
    next_lower : (i : ℕ) → number_at b.lower (j + suc i) ≤ℤ number_at xs i → number_at b.lower (j + 1 + i) ≤ℤ number_at xs i
    next_lower i l = let e : j + 1 + i ≡ j + suc i = omega arith in rw e l

    next_upper : (i : ℕ) → number_at xs i ≤ℤ number_at b.upper (j + suc i) → number_at xs i ≤ℤ number_at b.upper (j + 1 + i)
    next_upper i l = let e : j + 1 + i ≡ j + suc i = omega arith in rw e l

pub weak_duality : (p : Program) (b : Bounds) (q : ℤ) (ws : List Weight) → AreNotNegative ws → (point : List ℤ) → IsPoint p b point → (q *ℤ objective p point) ≤ℤ weighed p b q ws
weak_duality p b q ws h point m =
    let a = columns_bound p.rows.items b q ws 0 p.costs.items point m.count (λ k l. at_start k b.lower point (m.inside k l).0) (λ k l. at_end k point b.upper (m.inside k l).1) in
    let s = left_sum-≤ p b ws point h m in
    join _ _ _ _ _ a (dot_from-column_sum p.rows.items ws point) s
  where
    at_start : (k : ℕ) (xs ys : List ℤ) → number_at xs k ≤ℤ number_at ys k → number_at xs (0 + k) ≤ℤ number_at ys k
    at_start k xs ys h = let e : 0 + k ≡ k = omega arith in rw e h

    at_end : (k : ℕ) (xs ys : List ℤ) → number_at xs k ≤ℤ number_at ys k → number_at xs k ≤ℤ number_at ys (0 + k)
    at_end k xs ys h = let e : 0 + k ≡ k = omega arith in rw e h

    join : (v c s l r : ℤ) → v ≤ℤ (s +ℤ c) → s ≡ l → l ≤ℤ r → v ≤ℤ (r +ℤ c)
    join v c s l r h e k = omega (arith, ints)

pub no_point : (p : Program) (b : Bounds) (q : ℤ) (ws : List Weight) → AreNotNegative ws → (point : List ℤ) → q ≡ pos 0 → weighed p b q ws <ℤ pos 0 → IsPoint p b point → ⊥
no_point p b q ws h point z l m = contrary q (objective p point) (weighed p b q ws) z l (weak_duality p b q ws h point m)
  where
    contrary : (q o w : ℤ) → q ≡ pos 0 → w <ℤ pos 0 → (q *ℤ o) ≤ℤ w → ⊥
    contrary q o w z l m = let e : q *ℤ o ≡ pos 0 *ℤ o = ap (λ x. x *ℤ o) z in omega (arith, ints)

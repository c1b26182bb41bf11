-- Weighing without weights and by one row is formed, and what it gives at a region of one point.
use Rattle.std.proofs.Common.{◌≡◌, ℕ, ◌+◌, ◌*◌, ◌^◌, ◌<◌, ◌≤◌, refl, sym, ap, ◌∙◌, subst, arith, List, [], ◌∷◌, length, Bool, true, false, cond, eqb, Option, Some, None, Result, Ok, IfOk}
use Prim.Native.Nat.{suc}
use Rattle.std.specs.Prelude.{unsigned_abs, ◌≤ℤ◌}
use Rattle.std.proofs.Math.Nat.{mul-le-mul_left}
use Rattle.std.proofs.lemmas.Bool.{eqb-true}
use Rattle.std.proofs.lemmas.List.Sums.{sum_by-cons}
use Rattle.std.proofs.lemmas.Int.{ints, unsigned_abs-mul}
use lib.IntN.{ℤ, pos, ◌+ℤ◌, ◌-ℤ◌, ◌*ℤ◌}
use lib.Signed.{lt_z}
use Rattle.tetri_algebra.specs.IntegerRing.{ℤ_ring}
use Rattle.tetri_algebra.specs.RingSolver.{var, minus, ring, ◌⊕◌, ◌⊗◌}
use Rattle.tetri_algebra.specs.Sums.{dot, dot_from, unit_at}
use Rattle.tetri_ip.specs.declared.programs.Program.{Program}
use Rattle.tetri_ip.specs.declared.programs.Row.{Row}
use Rattle.tetri_ip.specs.declared.programs.Term.{Term}
use Rattle.tetri_ip.specs.declared.programs.Weight.{Weight}
use Rattle.tetri_ip.specs.declared.programs.WeighFault.{WeighFault}
use Rattle.tetri_ip.specs.Points.{Bounds, IsFit, IsInBox, coefficient, column_at, cost_reach, left_side, number_at, objective, reach, right_of, size_at, term_at, terms_of}
use Rattle.tetri_algebra.specs.Range.{IsWithin}
use Rattle.tetri_ip.specs.Weighed.{bound_taken, column_sum, columns_from, once, right_sum, weighed}
use Rattle.tetri_ip.specs.Forming.{add_product, first_negative, form_column, form_columns, form_factor, form_right, or_past, then_form, unless_negative, weigh_answer, within}
use Rattle.tetri_ip.proofs.Coefficients.{coefficient_at, unit_other}
use Rattle.tetri_ip.proofs.Duality.{dot_from-column_sum, left_sum}
use Rattle.tetri_ip.proofs.Formed.{columns_are, right_is}
use Rattle.tetri_ip.proofs.Sides.{size_between}
use Rattle.tetri_ip.proofs.Steps.{within_itself}

-- ---- where weighing answers, it answers the weighed number
pub answer_is_weighed : (p : Program) (b : Bounds) (q : ℤ) (ws : List Weight) (z : ℤ) → weigh_answer p b q ws ≡ Ok z → z ≡ weighed p b q ws
answer_is_weighed p b q ws z e = by_sign (first_negative ws) e
  where
    by_sum : (o : Option ℤ) → form_right p.rows.items ws (pos 0) ≡ o → or_past 0 o (λ sum. form_columns p.rows.items b q ws 0 p.costs.items sum) ≡ Ok z → z ≡ weighed p b q ws
    by_sum None f g = cc
    by_sum (Some s) f g =
        let c : z ≡ s +ℤ columns_from p.rows.items b q ws 0 p.costs.items = subst (λ (r : Result ℤ WeighFault). IfOk r (λ x. x ≡ s +ℤ columns_from p.rows.items b q ws 0 p.costs.items)) g (columns_are p.rows.items b q ws 0 p.costs.items s) in
        c ∙ ap (λ x. x +ℤ columns_from p.rows.items b q ws 0 p.costs.items) (right_is p.rows.items ws s f).0

    by_sign : (o : Option ℕ) → unless_negative o (or_past 0 (form_right p.rows.items ws (pos 0)) (λ sum. form_columns p.rows.items b q ws 0 p.costs.items sum)) ≡ Ok z → z ≡ weighed p b q ws
    by_sign None f = by_sum (form_right p.rows.items ws (pos 0)) refl f
    by_sign (Some row) f = cc

-- ---- columns whose numbers stay in range
-- the numbers of a column, and how much its product adds at most
record IsColumnFormed (rows : List Row) (b : Bounds) (q : ℤ) (ws : List Weight) (j : ℕ) (cost : ℤ) (most : ℕ) : Type 0 where
  first : ℤ
  factor : ℤ
  first_is : within (q *ℤ cost) ≡ Some first
  factor_is : form_factor rows ws j first ≡ Some factor
  small : unsigned_abs factor * unsigned_abs (bound_taken b j factor) ≤ most

abbrev sum_from : (ℕ → ℤ → ℕ) → ℕ → List ℤ → ℕ
sum_from most j [] = 0
sum_from most j (c ∷ cs) = most j c + sum_from most (j + 1) cs

size_of_sum : (sum part : ℤ) (m n rest : ℕ) → unsigned_abs part ≡ n → n ≤ m → unsigned_abs sum + (m + rest) < 2 ^ 127 → IsWithin part × IsWithin (sum +ℤ part) × (unsigned_abs (sum +ℤ part) + rest < 2 ^ 127)
size_of_sum sum part m n rest e l h = (omega arith, omega (arith, ints), omega (arith, ints))

columns_formed : (rows : List Row) (b : Bounds) (q : ℤ) (ws : List Weight) (most : ℕ → ℤ → ℕ) (j : ℕ) (cs : List ℤ) (sum : ℤ) →
    ((k : ℕ) → k < length cs → IsColumnFormed rows b q ws (j + k) (number_at cs k) (most (j + k) (number_at cs k))) → unsigned_abs sum + sum_from most j cs < 2 ^ 127 →
    (z : ℤ) × (form_columns rows b q ws j cs sum ≡ Ok z)
columns_formed rows b q ws most j [] sum f h = (sum, refl)
columns_formed rows b q ws most j (c ∷ cs) sum f h =
    let zero_more : j + 0 ≡ j = omega arith in
    let g = subst (λ i. IsColumnFormed rows b q ws i c (most i c)) zero_more (f 0 (omega arith)) in
    let d = g.factor in
    let x = bound_taken b j d in
    let s = size_of_sum sum (d *ℤ x) (most j c) (unsigned_abs d * unsigned_abs x) (sum_from most (j + 1) cs) (unsigned_abs-mul d x) g.small h in
    let one : form_column rows b q ws j c sum ≡ Some (sum +ℤ d *ℤ x) =
    ap (λ (o : Option ℤ). then_form o (λ first. then_form (form_factor rows ws j first) (λ d. add_product sum d (bound_taken b j d)))) g.first_is
    ∙ ap (λ (o : Option ℤ). then_form o (λ d. add_product sum d (bound_taken b j d))) g.factor_is
    ∙ ap (λ (o : Option ℤ). then_form o (λ part. within (sum +ℤ part))) (within_itself (d *ℤ x) s.0)
    ∙ within_itself (sum +ℤ d *ℤ x) s.1 in
    let next = λ (k : ℕ) (l : k < length cs). subst (λ i. IsColumnFormed rows b q ws i (number_at cs k) (most i (number_at cs k))) (moved k) (f (suc k) (omega arith)) in
    let r = columns_formed rows b q ws most (j + 1) cs (sum +ℤ d *ℤ x) next s.2 in
    (r.0, ap (λ (o : Option ℤ). or_past j o (λ next. form_columns rows b q ws (j + 1) cs next)) one ∙ r.1)
  where
    moved : (k : ℕ) → j + suc k ≡ j + 1 + k
    moved k = omega arith

-- ---- bounds of a region within the program's box
bound_size : (p : Program) (b : Bounds) (j : ℕ) (d : ℤ) → IsInBox p b → j < length p.costs.items → unsigned_abs (bound_taken b j d) ≤ size_at p j
bound_size p b j d h l = by_sign (lt_z (pos 0) d)
  where
    le_trans : (x y z : ℤ) → x ≤ℤ y → y ≤ℤ z → x ≤ℤ z
    le_trans x y z e f = omega (arith, ints)

    by_sign : (t : Bool) → unsigned_abs (cond t (number_at b.upper j) (number_at b.lower j)) ≤ size_at p j
    by_sign true = size_between (number_at p.lower.items j) (number_at b.upper j) (number_at p.upper.items j) (le_trans _ _ _ (h.above j l) (h.ordered j l)) (h.below j l)
    by_sign false = size_between (number_at p.lower.items j) (number_at b.lower j) (number_at p.upper.items j) (h.above j l) (le_trans _ _ _ (h.ordered j l) (h.below j l))

-- ---- without weights
abbrev cost_most : Program → ℕ → ℤ → ℕ
cost_most p j c = unsigned_abs c * size_at p j

sum_from-cost_reach : (p : Program) (j : ℕ) (cs : List ℤ) → sum_from (cost_most p) j cs ≡ cost_reach p j cs
sum_from-cost_reach p j [] = refl
sum_from-cost_reach p j (c ∷ cs) = ap (λ n. unsigned_abs c * size_at p j + n) (sum_from-cost_reach p (j + 1) cs)

cost_formed : (p : Program) (b : Bounds) (j : ℕ) (c : ℤ) → IsInBox p b → j < length p.costs.items → IsWithin c → IsColumnFormed p.rows.items b (pos 1) [] j c (cost_most p j c)
cost_formed p b j c h l w =
    let one : pos 1 *ℤ c ≡ c = omega (arith, ints) in
    record {
      first = c;
      factor = c;
      first_is = ap within one ∙ within_itself c w;
      factor_is = refl;
      small = mul-le-mul_left (unsigned_abs c) (bound_size p b j c h l);
    }

pub weigh_of_none : (p : Program) (b : Bounds) → IsFit p → IsInBox p b → weigh_answer p b (pos 1) [] ≡ Ok (weighed p b (pos 1) [])
weigh_of_none p b f h =
    let start = λ (k : ℕ) (l : k < length p.costs.items). subst (λ i. IsColumnFormed p.rows.items b (pos 1) [] i (number_at p.costs.items k) (cost_most p i (number_at p.costs.items k))) (from_zero k) (cost_formed p b k (number_at p.costs.items k) h l (f.costs_within k l)) in
    let r = columns_formed p.rows.items b (pos 1) [] (cost_most p) 0 p.costs.items (pos 0) start (in_range (sum_from (cost_most p) 0 p.costs.items) (cost_reach p 0 p.costs.items) (sum_from-cost_reach p 0 p.costs.items) f.costs) in
    let e : weigh_answer p b (pos 1) [] ≡ Ok r.0 = r.1 in
    e ∙ ap Ok (answer_is_weighed p b (pos 1) [] r.0 e)
  where
    from_zero : (k : ℕ) → k ≡ 0 + k
    from_zero k = omega arith

    in_range : (m n : ℕ) → m ≡ n → n < 2 ^ 127 → unsigned_abs (pos 0) + m < 2 ^ 127
    in_range m n e h = omega (arith, ints)

-- ---- by one row
abbrev row_most : Program → List Term → ℕ → ℤ → ℕ
row_most p ts j c = unsigned_abs (coefficient ts j) * size_at p j

abbrev term_most : Program → Term → ℕ → ℤ → ℕ
term_most p t j c = unsigned_abs (unit_at ℤ_ring t.column t.by j) * size_at p j

size_sum_times : (x y : ℤ) (s : ℕ) → unsigned_abs (x +ℤ y) * s ≤ unsigned_abs x * s + unsigned_abs y * s
size_sum_times x y s =
    let h : unsigned_abs (x +ℤ y) ≤ unsigned_abs x + unsigned_abs y = omega (arith, ints) in
    let m = mul-le-mul_left s h in
    omega arith

sums_of_two : (p : Program) (t : Term) (ts : List Term) (j : ℕ) (cs : List ℤ) → sum_from (row_most p (t ∷ ts)) j cs ≤ sum_from (term_most p t) j cs + sum_from (row_most p ts) j cs
sums_of_two p t ts j [] = omega arith
sums_of_two p t ts j (c ∷ cs) =
    let a = size_sum_times (unit_at ℤ_ring t.column t.by j) (coefficient ts j) (size_at p j) in
    let r = sums_of_two p t ts (j + 1) cs in
    join _ _ _ _ _ _ a r
  where
    join : (x y z a b c : ℕ) → x ≤ y + z → a ≤ b + c → x + a ≤ y + b + (z + c)
    join x y z a b c h k = omega arith

term_past : (p : Program) (t : Term) (j : ℕ) (cs : List ℤ) → t.column < j → sum_from (term_most p t) j cs ≡ 0
term_past p t j [] h = refl
term_past p t j (c ∷ cs) h =
    let u : unit_at ℤ_ring t.column t.by j ≡ pos 0 = unit_other t.column t.by j (λ (e : t.column ≡ j). omega arith) in
    ap (λ z. unsigned_abs z * size_at p j + sum_from (term_most p t) (j + 1) cs) u ∙ nothing (size_at p j) _ (term_past p t (j + 1) cs (omega arith))
  where
    nothing : (s n : ℕ) → n ≡ 0 → unsigned_abs (pos 0) * s + n ≡ 0
    nothing s n e = omega (arith, ints)

term_sum : (p : Program) (t : Term) (j : ℕ) (cs : List ℤ) → sum_from (term_most p t) j cs ≤ unsigned_abs t.by * size_at p t.column
term_sum p t j [] = omega arith
term_sum p t j (c ∷ cs) = by_column (term_sum p t (j + 1) cs) (eqb t.column j) refl
  where
    here : (s n m : ℕ) → n ≡ 0 → m + n ≤ m
    here s n m e = omega arith

    later : (s n m : ℕ) → n ≤ m → unsigned_abs (pos 0) * s + n ≤ m
    later s n m h = omega (arith, ints)

    by_column : sum_from (term_most p t) (j + 1) cs ≤ unsigned_abs t.by * size_at p t.column → (u : Bool) → eqb t.column j ≡ u → unsigned_abs (cond u t.by (pos 0)) * size_at p j + sum_from (term_most p t) (j + 1) cs ≤ unsigned_abs t.by * size_at p t.column
    by_column rec true e =
        let same = eqb-true t.column j e in
        subst (λ i. unsigned_abs t.by * size_at p i + sum_from (term_most p t) (j + 1) cs ≤ unsigned_abs t.by * size_at p t.column) same
        (here 0 _ (unsigned_abs t.by * size_at p t.column) (term_past p t (j + 1) cs (omega arith)))
    by_column rec false e = later (size_at p j) _ _ rec

row_sum : (p : Program) (ts : List Term) (j : ℕ) (cs : List ℤ) → sum_from (row_most p ts) j cs ≤ reach p ts
row_sum p [] j cs = none j cs
  where
    none : (j : ℕ) (cs : List ℤ) → sum_from (row_most p []) j cs ≤ 0
    none j [] = omega arith
    none j (c ∷ cs) = nothing (size_at p j) _ (none (j + 1) cs)
      where
        nothing : (s n : ℕ) → n ≤ 0 → unsigned_abs (pos 0) * s + n ≤ 0
        nothing s n h = omega (arith, ints)
row_sum p (t ∷ ts) j cs =
    let a = sums_of_two p t ts j cs in
    let b = term_sum p t j cs in
    let c = row_sum p ts j cs in
    let e : reach p (t ∷ ts) ≡ unsigned_abs t.by * size_at p t.column + reach p ts = sum_by-cons (λ (u : Term). unsigned_abs u.by * size_at p u.column) t ts in
    omega arith

-- a coefficient is that of a term, or 0
pub coefficient_within : (ts : List Term) (j : ℕ) → ((k m : ℕ) → k < m → m < length ts → column_at ts k < column_at ts m) → ((k : ℕ) → k < length ts → IsWithin (term_at ts k).by) → IsWithin (coefficient ts j)
coefficient_within [] j a w = omega (arith, ints)
coefficient_within (t ∷ ts) j a w = by_column (coefficient_within ts j (λ k m h l. a (suc k) (suc m) (omega arith) (omega arith)) (λ k l. w (suc k) (omega arith))) (eqb t.column j) refl
  where
    zero_plus : (x : ℤ) → IsWithin x → IsWithin (pos 0 +ℤ x)
    zero_plus x h = let e : pos 0 +ℤ x ≡ x = omega (arith, ints) in subst IsWithin (sym e) h

    by_column : IsWithin (coefficient ts j) → (u : Bool) → eqb t.column j ≡ u → IsWithin (cond u t.by (pos 0) +ℤ coefficient ts j)
    by_column rec true e =
        let c : coefficient (t ∷ ts) j ≡ t.by = coefficient_at (t ∷ ts) j 0 a (omega arith) (eqb-true t.column j e) in
        let u : unit_at ℤ_ring t.column t.by j ≡ t.by = ap (λ v. cond v t.by (pos 0)) e in
        subst IsWithin (sym c ∙ ap (λ z. z +ℤ coefficient ts j) u) (w 0 (omega arith))
    by_column rec false e = zero_plus (coefficient ts j) rec

row_formed : (p : Program) (b : Bounds) (i j : ℕ) (c : ℤ) → IsFit p → IsInBox p b → i < length p.rows.items → j < length p.costs.items → IsColumnFormed p.rows.items b (pos 0) (once i) j c (row_most p (terms_of p.rows.items i) j c)
row_formed p b i j c f h l m =
    let row = f.rows i l in
    let z = coefficient (terms_of p.rows.items i) j in
    let w = coefficient_within (terms_of p.rows.items i) j row.ascending row.numbers in
    let none : pos 0 *ℤ c ≡ pos 0 = omega (arith, ints) in
    let one : pos 1 *ℤ z ≡ z = omega (arith, ints) in
    let d = pos 0 -ℤ z in
    let size : unsigned_abs d ≡ unsigned_abs z = omega (arith, ints) in
    record {
      first = pos 0;
      factor = d;
      first_is = ap within none ∙ within_itself (pos 0) (omega (arith, ints));
      factor_is = ap (λ (o : Option ℤ). then_form (then_form o (λ part. within (pos 0 -ℤ part))) (λ next. Some next)) (ap within one ∙ within_itself z w)
          ∙ ap (λ (o : Option ℤ). then_form o (λ next. Some next)) (within_itself d (subst (λ n. n < 2 ^ 127) (sym size) w));
      small = subst (λ n. n * unsigned_abs (bound_taken b j d) ≤ unsigned_abs z * size_at p j) (sym size) (mul-le-mul_left (unsigned_abs z) (bound_size p b j d h m));
    }

pub weigh_of_row : (p : Program) (b : Bounds) (i : ℕ) → IsFit p → IsInBox p b → i < length p.rows.items → weigh_answer p b (pos 0) (once i) ≡ Ok (weighed p b (pos 0) (once i))
weigh_of_row p b i f h l =
    let ts = terms_of p.rows.items i in
    let y = right_of p.rows.items i in
    let row = f.rows i l in
    let a = row_sum p ts 0 p.costs.items in
    let one : pos 1 *ℤ y ≡ y = omega (arith, ints) in
    let plus : pos 0 +ℤ y ≡ y = omega (arith, ints) in
    let start = λ (k : ℕ) (m : k < length p.costs.items). subst (λ n. IsColumnFormed p.rows.items b (pos 0) (once i) n (number_at p.costs.items k) (row_most p ts n (number_at p.costs.items k))) (from_zero k) (row_formed p b i k (number_at p.costs.items k) f h l m) in
    let r = columns_formed p.rows.items b (pos 0) (once i) (row_most p ts) 0 p.costs.items y start (in_range _ _ (unsigned_abs y) a row.in_range) in
    let s : form_right p.rows.items (once i) (pos 0) ≡ Some y =
    ap (λ (o : Option ℤ). then_form (then_form o (λ part. within (pos 0 +ℤ part))) (λ next. Some next)) (ap within one ∙ within_itself y (right_within _ (unsigned_abs y) row.in_range))
    ∙ ap (λ (o : Option ℤ). then_form o (λ next. Some next)) (ap within plus ∙ within_itself y (right_within _ (unsigned_abs y) row.in_range)) in
    let e : weigh_answer p b (pos 0) (once i) ≡ Ok r.0 = ap (λ (o : Option ℤ). or_past 0 o (λ sum. form_columns p.rows.items b (pos 0) (once i) 0 p.costs.items sum)) s ∙ r.1 in
    e ∙ ap Ok (answer_is_weighed p b (pos 0) (once i) r.0 e)
  where
    from_zero : (k : ℕ) → k ≡ 0 + k
    from_zero k = omega arith

    right_within : (m n : ℕ) → m + n < 2 ^ 127 → n < 2 ^ 127
    right_within m n h = omega arith

    in_range : (s m n : ℕ) → s ≤ m → m + n < 2 ^ 127 → n + s < 2 ^ 127
    in_range s m n h k = omega arith

-- ---- at a region of one point
columns_at_point : (rows : List Row) (b : Bounds) (q : ℤ) (ws : List Weight) (j : ℕ) (cs xs : List ℤ) → b.lower ≡ b.upper → length xs ≡ length cs → ((k : ℕ) → k < length cs → number_at b.lower (j + k) ≡ number_at xs k) →
    columns_from rows b q ws j cs ≡ q *ℤ dot ℤ_ring cs xs -ℤ dot_from ℤ_ring (column_sum rows ws) j xs
columns_at_point rows b q ws j [] [] s e h = nothing q
  where
    nothing : (q : ℤ) → pos 0 ≡ q *ℤ pos 0 -ℤ pos 0
    nothing q = omega (arith, ints)
columns_at_point rows b q ws j [] (x ∷ xs) s e h = absurd (omega arith)
columns_at_point rows b q ws j (c ∷ cs) [] s e h = absurd (omega arith)
columns_at_point rows b q ws j (c ∷ cs) (x ∷ xs) s e h =
    let f = column_sum rows ws j in
    let d = q *ℤ c -ℤ f in
    let z : j + 0 ≡ j = omega arith in
    let x_is : number_at b.lower j ≡ x = rw z at (h 0 (omega arith)) in
    let taken : bound_taken b j d ≡ x = by_sign (lt_z (pos 0) d) ∙ x_is in
    let r = columns_at_point rows b q ws (j + 1) cs xs s (omega arith) (λ k l. ap (number_at b.lower) (moved k) ∙ h (suc k) (omega arith)) in
    let Q = var 0 in let C = var 1 in let X = var 2 in let F = var 3 in let S = var 4 in let T = var 5 in
    ap (λ y. d *ℤ y +ℤ columns_from rows b q ws (j + 1) cs) taken ∙ ap (λ y. d *ℤ x +ℤ y) r
    ∙ ring ℤ_ring (q ∷ c ∷ x ∷ f ∷ dot ℤ_ring cs xs ∷ dot_from ℤ_ring (column_sum rows ws) (j + 1) xs ∷ [])
    ((Q ⊗ C ⊕ minus F) ⊗ X ⊕ (Q ⊗ S ⊕ minus T)) (Q ⊗ (C ⊗ X ⊕ S) ⊕ minus (F ⊗ X ⊕ T)) refl
  where
    moved : (k : ℕ) → j + 1 + k ≡ j + suc k
    moved k = omega arith

    by_sign : (t : Bool) → cond t (number_at b.upper j) (number_at b.lower j) ≡ number_at b.lower j
    by_sign true = ap (λ ys. number_at ys j) (sym s)
    by_sign false = refl

-- the weighed number is linear there
pub weighed_at_point : (p : Program) (b : Bounds) (q : ℤ) (ws : List Weight) → length b.lower ≡ length p.costs.items → b.lower ≡ b.upper →
    weighed p b q ws ≡ right_sum p.rows.items ws +ℤ (q *ℤ objective p b.lower -ℤ left_sum p.rows.items ws b.lower)
weighed_at_point p b q ws n s =
    ap (λ z. right_sum p.rows.items ws +ℤ z) (columns_at_point p.rows.items b q ws 0 p.costs.items b.lower s n (λ k l. ap (number_at b.lower) (from_zero k)))
    ∙ ap (λ z. right_sum p.rows.items ws +ℤ (q *ℤ objective p b.lower -ℤ z)) (dot_from-column_sum p.rows.items ws b.lower)
  where
    from_zero : (k : ℕ) → 0 + k ≡ k
    from_zero k = omega arith

pub weighed_single : (p : Program) (b : Bounds) → IsInBox p b → b.lower ≡ b.upper → weighed p b (pos 1) [] ≡ objective p b.lower
weighed_single p b h s = weighed_at_point p b (pos 1) [] h.lower_count s ∙ alone (objective p b.lower)
  where
    alone : (x : ℤ) → pos 0 +ℤ (pos 1 *ℤ x -ℤ pos 0) ≡ x
    alone x = omega (arith, ints)

pub weighed_row_single : (p : Program) (b : Bounds) (i : ℕ) → IsInBox p b → b.lower ≡ b.upper → weighed p b (pos 0) (once i) ≡ right_of p.rows.items i -ℤ left_side (terms_of p.rows.items i) b.lower
weighed_row_single p b i h s = weighed_at_point p b (pos 0) (once i) h.lower_count s ∙ alone (right_of p.rows.items i) (left_side (terms_of p.rows.items i) b.lower) (objective p b.lower)
  where
    alone : (r l x : ℤ) → (pos 1 *ℤ r +ℤ pos 0) +ℤ (pos 0 *ℤ x -ℤ (pos 1 *ℤ l +ℤ pos 0)) ≡ r -ℤ l
    alone r l x = omega (arith, ints)

-- Programs with the same columns, and a row that is added last.
use Rattle.std.proofs.Common.{◌≡◌, ℕ, ◌+◌, ◌*◌, ◌^◌, ◌<◌, ◌≤◌, refl, sym, ap, ◌∙◌, subst, arith, inl, inr, List, [], ◌∷◌, ◌++◌, length, max}
use Prim.Native.Nat.{zero, suc}
use Rattle.std.specs.Prelude.{◌≤ℤ◌, ◌-ℤ◌, unsigned_abs, sum_by}
use Rattle.std.proofs.lemmas.Bool.{cases_lt}
use Rattle.std.proofs.lemmas.Int.{ints}
use Rattle.std.proofs.lemmas.List.{length_push}
use lib.IntN.{ℤ, pos}
use Rattle.tetri_ip.specs.declared.programs.Program.{Program}
use Rattle.tetri_ip.specs.declared.programs.Row.{Row}
use Rattle.tetri_ip.specs.declared.programs.Term.{Term}
use Rattle.tetri_ip.specs.Points.{NumbersWithin, IsBelow, IsFit, IsFitRow, IsInBox, IsPoint, MeetsRows, box_of, cost_reach, left_side, number_at, reach, right_of, size_at, terms_of}
use Rattle.tetri_algebra.specs.Range.{IsWithin}
use Rattle.tetri_ip.specs.SamePrograms.{SaysSame}
use Rattle.tetri_cuts.specs.Cuts.{HasNoNegativeBound, IsMetByPoints}
use Rattle.tetri_cuts.specs.Tightening.{HasRowLast}

-- the same costs and bounds
pub record SameColumns (p q : Program) : Type 0 where
  pub costs : q.costs.items ≡ p.costs.items
  pub lower : q.lower.items ≡ p.lower.items
  pub upper : q.upper.items ≡ p.upper.items

pub columns_of_same : (p q : Program) → SaysSame p q → SameColumns p q
columns_of_same p q same = record { costs = sym same.costs; lower = sym same.lower; upper = sym same.upper }

pub columns_of_row : (p q : Program) (r : Row) → HasRowLast p r q → SameColumns p q
columns_of_row p q r has = record { costs = has.costs; lower = has.lower; upper = has.upper }

-- the whole box of a fit program
pub whole_box : (p : Program) → IsFit p → IsInBox p (box_of p)
whole_box p fit = record {
  lower_count = fit.lower_count;
  upper_count = fit.upper_count;
  above = λ k l. itself (number_at p.lower.items k);
  ordered = fit.ordered;
  below = λ k l. itself (number_at p.upper.items k);
}
  where
    itself : (z : ℤ) → z ≤ℤ z
    itself z = omega (arith, ints)

below_same : (cs ls us cs' ls' us' : List ℤ) → cs' ≡ cs → ls' ≡ ls → us' ≡ us → IsBelow (length cs) ls us → IsBelow (length cs') ls' us'
below_same cs ls us cs' ls' us' a b c h =
    subst (λ (xs : List ℤ). IsBelow (length xs) ls' us') (sym a) (subst (λ (xs : List ℤ). IsBelow (length cs) xs us') (sym b) (subst (λ (xs : List ℤ). IsBelow (length cs) ls xs) (sym c) h))

module _ (p q : Program) (same : SameColumns p q) where
  size_same : (j : ℕ) → size_at q j ≡ size_at p j
  size_same j =
      ap (λ (xs : List ℤ). max (unsigned_abs (number_at xs j)) (unsigned_abs (number_at q.upper.items j))) same.lower
      ∙ ap (λ (xs : List ℤ). max (unsigned_abs (number_at p.lower.items j)) (unsigned_abs (number_at xs j))) same.upper

  reach_same : (ts : List Term) → reach q ts ≡ reach p ts
  reach_same ts =
      ap (λ (xs : List ℤ). sum_by (λ (t : Term). unsigned_abs t.by * max (unsigned_abs (number_at xs t.column)) (unsigned_abs (number_at q.upper.items t.column))) ts) same.lower
      ∙ ap (λ (xs : List ℤ). sum_by (λ (t : Term). unsigned_abs t.by * max (unsigned_abs (number_at p.lower.items t.column)) (unsigned_abs (number_at xs t.column))) ts) same.upper

  cost_same : (j : ℕ) (cs : List ℤ) → cost_reach q j cs ≡ cost_reach p j cs
  cost_same j [] = refl
  cost_same j (c ∷ cs) = ap (λ n. unsigned_abs c * n + cost_reach q (j + 1) cs) (size_same j) ∙ ap (λ n. unsigned_abs c * size_at p j + n) (cost_same (j + 1) cs)

  count : length q.costs.items ≡ length p.costs.items
  count = ap (λ (xs : List ℤ). length xs) same.costs

  pub row_same : (ts : List Term) (right : ℤ) → IsFitRow p ts right → IsFitRow q ts right
  row_same ts right fit = record {
    ascending = fit.ascending;
    columns = λ k l. omega (arith, fit.columns k l, count);
    numbers = fit.numbers;
    in_range = omega (arith, reach_same ts, fit.in_range);
  }

  pub fit_same : IsFit p → length q.rows.items < 2 ^ 31 → ((k : ℕ) → k < length q.rows.items → IsFitRow q (terms_of q.rows.items k) (right_of q.rows.items k)) → IsFit q
  fit_same fit few rows = record {
    few_columns = omega (arith, count, fit.few_columns);
    few_rows = few;
    lower_count = ap (λ (xs : List ℤ). length xs) same.lower ∙ fit.lower_count ∙ sym count;
    upper_count = ap (λ (xs : List ℤ). length xs) same.upper ∙ fit.upper_count ∙ sym count;
    ordered = below_same p.costs.items p.lower.items p.upper.items q.costs.items q.lower.items q.upper.items same.costs same.lower same.upper fit.ordered;
    costs_within = subst NumbersWithin (sym same.costs) fit.costs_within;
    lower_within = subst NumbersWithin (sym same.lower) fit.lower_within;
    upper_within = subst NumbersWithin (sym same.upper) fit.upper_within;
    widths = λ k l. subst (λ (xs : List ℤ). IsWithin (number_at xs k -ℤ number_at q.lower.items k)) (sym same.upper) (subst (λ (xs : List ℤ). IsWithin (number_at p.upper.items k -ℤ number_at xs k)) (sym same.lower) (fit.widths k (omega (arith, l, count))));
    rows = rows;
    costs = omega (arith, ap (λ (xs : List ℤ). cost_reach q 0 xs) same.costs, cost_same 0 p.costs.items, fit.costs);
  }

  pub lower_same : HasNoNegativeBound p → HasNoNegativeBound q
  lower_same low k l = subst (λ (xs : List ℤ). pos 0 ≤ℤ number_at xs k) (sym same.lower) (low k (omega (arith, l, count)))

  pub point_same : (point : List ℤ) → IsPoint p (box_of p) point → MeetsRows q.rows.items point → IsPoint q (box_of q) point
  point_same point is met = record {
    count = is.count ∙ sym count;
    inside = λ k l.
        let h = is.inside k (omega (arith, l, count)) in
        (subst (λ (xs : List ℤ). number_at xs k ≤ℤ number_at point k) (sym same.lower) h.0, subst (λ (xs : List ℤ). number_at point k ≤ℤ number_at xs k) (sym same.upper) h.1);
    met = met;
  }

-- ---- a program that says the same
same_met : (p q : Program) → SaysSame p q → (point : List ℤ) → MeetsRows p.rows.items point → MeetsRows q.rows.items point
same_met p q same point met k l =
    subst (λ (ts : List Term). left_side ts point ≤ℤ right_of q.rows.items k) (same.rows.terms k)
    (subst (λ (z : ℤ). left_side (terms_of p.rows.items k) point ≤ℤ z) (same.rows.rights k) (met k (omega (arith, l, same.rows.count))))

pub copy_fit : (p q : Program) → SaysSame p q → IsFit p → IsFit q
copy_fit p q same fit =
    fit_same p q (columns_of_same p q same) fit (omega (arith, same.rows.count, fit.few_rows))
    (λ k l. row_same p q (columns_of_same p q same) (terms_of q.rows.items k) (right_of q.rows.items k)
    (subst (λ (ts : List Term). IsFitRow p ts (right_of q.rows.items k)) (same.rows.terms k)
    (subst (λ (z : ℤ). IsFitRow p (terms_of p.rows.items k) z) (same.rows.rights k) (fit.rows k (omega (arith, l, same.rows.count))))))

pub copy_points : (p q : Program) → SaysSame p q → (point : List ℤ) → IsPoint p (box_of p) point → IsPoint q (box_of q) point
copy_points p q same point is = point_same p q (columns_of_same p q same) point is (same_met p q same point is.met)

-- ---- a row that is added last
terms_before : (xs : List Row) (r : Row) (k : ℕ) → k < length xs → terms_of (xs ++ r ∷ []) k ≡ terms_of xs k
terms_before [] r k l = absurd (omega (arith, l))
terms_before (x ∷ xs) r zero l = refl
terms_before (x ∷ xs) r (suc k) l = terms_before xs r k (omega (arith, l))

terms_last : (xs : List Row) (r : Row) (k : ℕ) → k ≡ length xs → terms_of (xs ++ r ∷ []) k ≡ r.terms.items
terms_last [] r zero e = refl
terms_last [] r (suc k) e = absurd (omega (arith, e))
terms_last (x ∷ xs) r zero e = absurd (omega (arith, e))
terms_last (x ∷ xs) r (suc k) e = terms_last xs r k (omega (arith, e))

rights_before : (xs : List Row) (r : Row) (k : ℕ) → k < length xs → right_of (xs ++ r ∷ []) k ≡ right_of xs k
rights_before [] r k l = absurd (omega (arith, l))
rights_before (x ∷ xs) r zero l = refl
rights_before (x ∷ xs) r (suc k) l = rights_before xs r k (omega (arith, l))

rights_last : (xs : List Row) (r : Row) (k : ℕ) → k ≡ length xs → right_of (xs ++ r ∷ []) k ≡ r.right
rights_last [] r zero e = refl
rights_last [] r (suc k) e = absurd (omega (arith, e))
rights_last (x ∷ xs) r zero e = absurd (omega (arith, e))
rights_last (x ∷ xs) r (suc k) e = rights_last xs r k (omega (arith, e))

module _ (P : List Term → ℤ → Type 0) (xs : List Row) (last r : Row) (terms : last.terms.items ≡ r.terms.items) (right : last.right ≡ r.right)
    (before : (k : ℕ) → k < length xs → P (terms_of xs k) (right_of xs k)) (here : P r.terms.items r.right) where
  -- what holds of each row and of the last one
  each_of_push : (k : ℕ) → k < length (xs ++ last ∷ []) → P (terms_of (xs ++ last ∷ []) k) (right_of (xs ++ last ∷ []) k)
  each_of_push k l = elim (cases_lt k (length xs)) [
    | inl lt ↦ subst (λ ts. P ts (right_of (xs ++ last ∷ []) k)) (sym (terms_before xs last k lt)) (subst (λ z. P (terms_of xs k) z) (sym (rights_before xs last k lt)) (before k lt))
    | inr le ↦
        let e : k ≡ length xs = omega (arith, l, le, length_push xs last) in
        subst (λ ts. P ts (right_of (xs ++ last ∷ []) k)) (sym (terms_last xs last k e ∙ terms)) (subst (λ z. P r.terms.items z) (sym (rights_last xs last k e ∙ right)) here)
  ]

  pub each_row : (ys : List Row) → ys ≡ xs ++ last ∷ [] → (k : ℕ) → k < length ys → P (terms_of ys k) (right_of ys k)
  each_row ys e = subst (λ (zs : List Row). (k : ℕ) → k < length zs → P (terms_of zs k) (right_of zs k)) (sym e) each_of_push

pub push_fit : (p q : Program) (r : Row) → HasRowLast p r q → length p.rows.items < 2000 → IsFitRow p r.terms.items r.right → IsFit p → IsFit q
push_fit p q r has few row fit =
    let same = columns_of_row p q r has in
    let n : length q.rows.items ≡ length p.rows.items + 1 = ap (λ (xs : List Row). length xs) has.rows ∙ length_push p.rows.items has.last in
    fit_same p q same fit (omega (arith, n, few))
    (each_row (λ ts z. IsFitRow q ts z) p.rows.items has.last r has.terms has.right (λ k l. row_same p q same _ _ (fit.rows k l)) (row_same p q same r.terms.items r.right row) q.rows.items has.rows)

pub push_points : (p q : Program) (r : Row) → HasRowLast p r q → IsMetByPoints p r → (point : List ℤ) → IsPoint p (box_of p) point → IsPoint q (box_of q) point
push_points p q r has met point is =
    point_same p q (columns_of_row p q r has) point is
    (each_row (λ ts z. left_side ts point ≤ℤ z) p.rows.items has.last r has.terms has.right is.met (met point is) q.rows.items has.rows)

-- A program with few and small numbers is fit.
use Rattle.std.proofs.Common.{◌≡◌, ℕ, zero, suc, ◌+◌, ◌*◌, ◌^◌, ◌<◌, ◌≤◌, ◌==◌, max, List, [], ◌∷◌, length, map, refl, sym, ap, ◌∙◌, subst, arith, le_trans}
use Rattle.std.specs.Prelude.{unsigned_abs, ◌≤ℤ◌, ◌-ℤ◌}
use Rattle.std.specs.List.{range_with_len}
use Rattle.std.proofs.Math.Nat.{mul-le-mul_left, mul-le-mul_right}
use Rattle.std.proofs.lemmas.Bool.{cond_both}
use Rattle.std.proofs.lemmas.Int.{ints}
use Rattle.std.proofs.lemmas.List.{length-map}
use Rattle.std.proofs.lemmas.List.FromFn.{length-map-range_with_len}
use Rattle.std.proofs.lemmas.List.Sums.{sum_by-cons}
use lib.IntN.{ℤ, pos}
use Rattle.tetri_ip.specs.declared.programs.Program.{Program}
use Rattle.tetri_ip.specs.declared.programs.Row.{Row}
use Rattle.tetri_ip.specs.declared.programs.Term.{Term}
use Rattle.tetri_ip.specs.Points.{IsFit, IsFitRow, column_at, cost_reach, number_at, reach, right_of, size_at, term_at, terms_of}
use Rattle.tetri_algebra.specs.Range.{IsWithin}
use Rattle.tetri_strl.specs.WellMade.{PEAK}
use Rattle.tetri_base.specs.Lists.{Each}
use Rattle.tetri_compile.specs.Draft.{Draft}
use Rattle.tetri_compile.specs.Flat.{FlatProgram, FlatRow, coefficient, flat, flat_row, plain, plain_row, terms_at}
use Rattle.tetri_compile.specs.Forms.{Form, Limit}
use Rattle.tetri_compile.specs.Small.{IsSmallForm, IsSmallLimit}
use Rattle.tetri_compile.proofs.GainLemmas.{number_of}
use Rattle.tetri_compile.proofs.ProgramLemmas.{coefficient_small, less_of}

-- ---- the terms of a row
module _ (most under : Form) where
  -- the columns are from a on and before e, and ascend
  pub record AreTerms (a e : ℕ) (ts : List Term) : Type 0 where
    pub from : (k : ℕ) → k < length ts → a ≤ column_at ts k
    pub before : (k : ℕ) → k < length ts → column_at ts k < e
    pub ascending : (k m : ℕ) → k < m → m < length ts → column_at ts k < column_at ts m
    pub numbers : (k : ℕ) → k < length ts → unsigned_abs (term_at ts k).by < 2 ^ 62
    pub few : a + length ts ≤ e

  no_terms : (a e : ℕ) → a ≤ e → AreTerms a e []
  no_terms a e le = record {
    from = λ k lt. absurd (omega (arith, lt));
    before = λ k lt. absurd (omega (arith, lt));
    ascending = λ k m lt gt. absurd (omega (arith, gt));
    numbers = λ k lt. absurd (omega (arith, lt));
    few = omega (arith, le);
  }

  later : (a e : ℕ) (ts : List Term) → AreTerms (a + 1) e ts → AreTerms a e ts
  later a e ts h = record { from = λ k lt. omega (arith, h.from k lt); before = h.before; ascending = h.ascending; numbers = h.numbers; few = omega (arith, h.few) }

  one_more : (a e : ℕ) (t : Term) (ts : List Term) → t.column ≡ a → a < e → unsigned_abs t.by < 2 ^ 62 → AreTerms (a + 1) e ts → AreTerms a e (t ∷ ts)
  one_more a e t ts is lt small h = record {
    from = low;
    before = high;
    ascending = up;
    numbers = size;
    few = omega (arith, h.few);
  }
    where
      low : (k : ℕ) → k < suc (length ts) → a ≤ column_at (t ∷ ts) k
      low zero le = omega (arith, is)
      low (suc k) le = omega (arith, h.from k (omega (arith, le)))

      high : (k : ℕ) → k < suc (length ts) → column_at (t ∷ ts) k < e
      high zero le = omega (arith, is, lt)
      high (suc k) le = h.before k (omega (arith, le))

      up : (k m : ℕ) → k < m → m < suc (length ts) → column_at (t ∷ ts) k < column_at (t ∷ ts) m
      up k zero less le = absurd (omega (arith, less))
      up zero (suc m) less le = omega (arith, is, h.from m (omega (arith, le)))
      up (suc k) (suc m) less le = h.ascending k m (omega (arith, less)) (omega (arith, le))

      size : (k : ℕ) → k < suc (length ts) → unsigned_abs (term_at (t ∷ ts) k).by < 2 ^ 62
      size zero le = small
      size (suc k) le = h.numbers k (omega (arith, le))

  module _ (small_most : (j : ℕ) → coefficient most j < 2 ^ 61) (small_under : (j : ℕ) → coefficient under j < 2 ^ 61) where
    pub terms_are : (a n : ℕ) → AreTerms a (a + n) (terms_at most under (range_with_len a n))
    terms_are a zero = no_terms a (a + 0) (omega arith)
    terms_are a (suc n) =
        let e : a + 1 + n ≡ a + suc n = omega arith in
        let rest : AreTerms (a + 1) (a + suc n) (terms_at most under (range_with_len (a + 1) n)) =
        subst (λ (k : ℕ). AreTerms (a + 1) k (terms_at most under (range_with_len (a + 1) n))) e (terms_are (a + 1) n) in
        cond_both (coefficient most a == coefficient under a) (terms_at most under (range_with_len (a + 1) n))
        (record { column = a; by = pos (coefficient most a) -ℤ pos (coefficient under a) } ∷ terms_at most under (range_with_len (a + 1) n)) (AreTerms a (a + suc n))
        (λ same. later a (a + suc n) (terms_at most under (range_with_len (a + 1) n)) rest)
        (λ differ. one_more a (a + suc n) (record { column = a; by = pos (coefficient most a) -ℤ pos (coefficient under a) }) (terms_at most under (range_with_len (a + 1) n)) refl (omega arith)
        (less_of (coefficient most a) (coefficient under a) (small_most a) (small_under a)) rest)

-- ---- reaches
small_product : (a b : ℕ) → a < 2 ^ 62 → b ≤ PEAK → a * b ≤ 2 ^ 62 * PEAK
small_product a b p q = let le : a ≤ 2 ^ 62 = omega (arith, p) in le_trans (mul-le-mul_left a q) (mul-le-mul_right PEAK le)

module _ (p : Program) (sizes : (j : ℕ) → size_at p j ≤ PEAK) where
  reach_small : (ts : List Term) → ((k : ℕ) → k < length ts → unsigned_abs (term_at ts k).by < 2 ^ 62) → reach p ts ≤ length ts * (2 ^ 62 * PEAK)
  reach_small [] h = omega arith
  reach_small (t ∷ ts) h =
      let rest = reach_small ts (λ k lt. h (suc k) (omega (arith, lt))) in
      let here = small_product (unsigned_abs t.by) (size_at p t.column) (h 0 (omega arith)) (sizes t.column) in
      subst (λ k. k ≤ suc (length ts) * (2 ^ 62 * PEAK)) (sym (sum_by-cons (λ (u : Term). unsigned_abs u.by * size_at p u.column) t ts)) (omega (arith, rest, here))

  cost_reach_small : (j : ℕ) (cs : List ℤ) → ((k : ℕ) → unsigned_abs (number_at cs k) < 2 ^ 61) → cost_reach p j cs ≤ length cs * (2 ^ 62 * PEAK)
  cost_reach_small j [] h = omega arith
  cost_reach_small j (c ∷ cs) h =
      let rest = cost_reach_small (j + 1) cs (λ k. h (suc k)) in
      let here = small_product (unsigned_abs c) (size_at p j) (omega (arith, h 0)) (sizes j) in
      omega (arith, rest, here)

  module _ (n : ℕ) (few : n ≤ 2000) (count : length p.costs.items ≡ n) where
    row_fit : (r : Limit) → IsSmallLimit n r → IsFitRow p (flat_row n r).terms (flat_row n r).right
    row_fit r small =
        let ts = terms_at r.most r.under (range_with_len 0 n) in
        let are = terms_are r.most r.under (λ j. coefficient_small n r.most j few small.most) (λ j. coefficient_small n r.under j few small.under) 0 n in
        let reached = reach_small ts are.numbers in
        record {
          ascending = are.ascending;
          columns = λ k lt. omega (arith, are.before k lt, count);
          numbers = λ k lt. wide (unsigned_abs (term_at ts k).by) (are.numbers k lt);
          in_range = total (length ts) (reach p ts) r.plus (omega (arith, are.few, few)) reached small.plus;
        }
      where
        wide : (k : ℕ) → k < 2 ^ 62 → k < 2 ^ 127
        wide k h = omega (arith, h)

        total : (m a b : ℕ) → m ≤ 2000 → a ≤ m * (2 ^ 62 * PEAK) → b ≤ PEAK → a + b < 2 ^ 127
        total m a b h k l = omega (arith, h, k, l)

    rows_fit : (rs : List Limit) → Each (IsSmallLimit n) rs → Each (λ (q : FlatRow). IsFitRow p q.terms q.right) (map (flat_row n) rs)
    rows_fit [] h = tt
    rows_fit (r ∷ rs) h = (row_fit r h.0, rows_fit rs h.1)

rows_by_number : (p : Program) (rs : List Row) → Each (λ (q : FlatRow). IsFitRow p q.terms q.right) (map plain_row rs) → (k : ℕ) → k < length rs → IsFitRow p (terms_of rs k) (right_of rs k)
rows_by_number p [] h k lt = absurd (omega (arith, lt))
rows_by_number p (r ∷ rs) h zero lt = h.0
rows_by_number p (r ∷ rs) h (suc k) lt = rows_by_number p rs h.1 k (omega (arith, lt))

-- ---- bounds
zero_at : (us : List ℕ) (k : ℕ) → number_at (map (λ (u : ℕ). pos 0) us) k ≡ pos 0
zero_at [] k = refl
zero_at (u ∷ us) zero = refl
zero_at (u ∷ us) (suc k) = zero_at us k

upper_at : (us : List ℕ) (k : ℕ) → Each (λ u. u ≤ PEAK) us → (unsigned_abs (number_at (map pos us) k) ≤ PEAK) × (pos 0 ≤ℤ number_at (map pos us) k)
upper_at [] k h = (omega arith, omega (arith, ints))
upper_at (u ∷ us) zero h = (h.0, omega (arith, ints))
upper_at (u ∷ us) (suc k) h = upper_at us k h.1

within : (z : ℤ) (m : ℕ) → unsigned_abs z ≤ m → m ≤ 2 ^ 62 → IsWithin z
within z m h k = omega (arith, h, k)

less_zero : (z y : ℤ) → y ≡ pos 0 → unsigned_abs z ≤ PEAK → IsWithin (z -ℤ y)
less_zero z y e h = subst (λ (w : ℤ). IsWithin (z -ℤ w)) (sym e) (omega (arith, ints, h))

module _ (d : Draft) (n : ℕ) (few : n ≤ 2000) (width : length d.uppers ≡ n) (few_rows : length d.rows ≤ 2000) (uppers : Each (λ u. u ≤ PEAK) d.uppers)
    (earns : IsSmallForm n d.objective) (rows : Each (IsSmallLimit n) d.rows) (p : Program) (is : plain p ≡ flat d) where
  costs_are : p.costs.items ≡ map (λ j. pos (coefficient d.objective j)) (range_with_len 0 (length d.uppers))
  costs_are = ap (λ (q : FlatProgram). q.costs) is

  lower_are : p.lower.items ≡ map (λ (u : ℕ). pos 0) d.uppers
  lower_are = ap (λ (q : FlatProgram). q.lower) is

  upper_are : p.upper.items ≡ map pos d.uppers
  upper_are = ap (λ (q : FlatProgram). q.upper) is

  rows_are : map plain_row p.rows.items ≡ map (flat_row (length d.uppers)) d.rows
  rows_are = ap (λ (q : FlatProgram). q.rows) is

  count : length p.costs.items ≡ n
  count = ap (λ (zs : List ℤ). length zs) costs_are ∙ length-map-range_with_len (λ j. pos (coefficient d.objective j)) 0 (length d.uppers) ∙ width

  lower_at : (k : ℕ) → number_at p.lower.items k ≡ pos 0
  lower_at k = ap (λ (zs : List ℤ). number_at zs k) lower_are ∙ zero_at d.uppers k

  upper_small : (k : ℕ) → (unsigned_abs (number_at p.upper.items k) ≤ PEAK) × (pos 0 ≤ℤ number_at p.upper.items k)
  upper_small k = subst (λ (zs : List ℤ). (unsigned_abs (number_at zs k) ≤ PEAK) × (pos 0 ≤ℤ number_at zs k)) (sym upper_are) (upper_at d.uppers k uppers)

  cost_small : (k : ℕ) → unsigned_abs (number_at p.costs.items k) < 2 ^ 61
  cost_small k =
      subst (λ (zs : List ℤ). unsigned_abs (number_at zs k) < 2 ^ 61) (sym costs_are)
      (omega (arith, number_of (coefficient d.objective) 0 (length d.uppers) k, coefficient_small n d.objective (0 + k) few earns))

  size_small : (j : ℕ) → size_at p j ≤ PEAK
  size_small j = larger (unsigned_abs (number_at p.lower.items j)) (unsigned_abs (number_at p.upper.items j)) (ap unsigned_abs (lower_at j)) (upper_small j).0
    where
      larger : (a b : ℕ) → a ≡ 0 → b ≤ PEAK → max a b ≤ PEAK
      larger a b e h = omega (arith, e, h)

  pub program_fit : IsFit p
  program_fit = record {
    few_columns = omega (arith, count, few);
    few_rows = omega (arith, sym (length-map p.rows.items plain_row) ∙ ap (λ (qs : List FlatRow). length qs) rows_are ∙ length-map d.rows (flat_row (length d.uppers)), few_rows);
    lower_count = ap (λ (zs : List ℤ). length zs) lower_are ∙ length-map d.uppers (λ (u : ℕ). pos 0) ∙ width ∙ sym count;
    upper_count = ap (λ (zs : List ℤ). length zs) upper_are ∙ length-map d.uppers pos ∙ width ∙ sym count;
    ordered = λ k lt. subst (λ (z : ℤ). z ≤ℤ number_at p.upper.items k) (sym (lower_at k)) (upper_small k).1;
    costs_within = λ k lt. within (number_at p.costs.items k) (2 ^ 61) (omega (arith, cost_small k)) (omega arith);
    lower_within = λ k lt. within (number_at p.lower.items k) 0 (omega (arith, ap unsigned_abs (lower_at k))) (omega arith);
    upper_within = λ k lt. within (number_at p.upper.items k) PEAK (upper_small k).0 (omega arith);
    widths = λ k lt. less_zero (number_at p.upper.items k) (number_at p.lower.items k) (lower_at k) (upper_small k).0;
    rows = rows_by_number p p.rows.items (subst (Each (λ (q : FlatRow). IsFitRow p q.terms q.right)) (sym (rows_are ∙ ap (λ (m : ℕ). map (flat_row m) d.rows) width)) (rows_fit p size_small n few count d.rows rows));
    costs = total (length p.costs.items) (cost_reach p 0 p.costs.items) (omega (arith, count, few)) (cost_reach_small p size_small 0 p.costs.items cost_small);
  }
    where
      total : (m a : ℕ) → m ≤ 2000 → a ≤ m * (2 ^ 62 * PEAK) → a < 2 ^ 127
      total m a h k = omega (arith, h, k)

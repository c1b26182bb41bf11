-- The program by columns says what the forms say.
use Rattle.std.proofs.Common.{◌≡◌, ℕ, zero, suc, ◌+◌, ◌*◌, ◌<◌, ◌≤◌, ◌==◌, cond, List, [], ◌∷◌, length, map, refl, sym, ap, ◌∙◌, subst, arith, inl, inr}
use Rattle.std.specs.Prelude.{unsigned_abs, ◌≤ℤ◌}
use Rattle.std.specs.List.{range_with_len}
use Rattle.std.proofs.Math.Nat.{mul-zero}
use Rattle.std.proofs.lemmas.Bool.{cond_both, cases_order, cases_eq}
use Rattle.std.proofs.lemmas.Int.{ints}
use borrow.Author.Differences.{up, down}
use lib.IntN.{ℤ, pos, negsuc, ◌+ℤ◌, ◌-ℤ◌, ◌*ℤ◌}
use Rattle.tetri_algebra.specs.IntegerRing.{ℤ_ring}
use Rattle.tetri_algebra.specs.Sums.{dot}
use Rattle.tetri_ip.specs.declared.programs.Row.{Row}
use Rattle.tetri_ip.specs.Points.{number_at, left_side, MeetsRows}
use Rattle.tetri_strl.proofs.ExprLaws.{AreBelow}
use Rattle.tetri_base.specs.Lists.{sum_of}
use Rattle.tetri_base.proofs.ListLaws.{test_from_eq, test_from_ne, eq_from_test, sum_of-plus, sum_of-eq, sum_of-zero, Each-all}
use Rattle.tetri_compile.specs.Draft.{Draft}
use Rattle.tetri_compile.specs.Flat.{FlatRow, plain_row, coefficient, terms_at, flat_row, flat}
use Rattle.tetri_compile.specs.Forms.{Form, at_point, Limit, AreMet, Reads}

-- a point's number of a column
abbrev pub at_column : List ℤ → ℕ → ℕ
at_column point j = unsigned_abs (number_at point j)

-- each row is met
abbrev pub RowsMet : List FlatRow → List ℤ → Type 0
RowsMet [] xs = Unit {0}
RowsMet (r ∷ rs) xs = (left_side r.terms xs ≤ℤ r.right) × RowsMet rs xs

-- ---- a form by columns
module _ (x : ℕ → ℕ) where
  past : (c v a n : ℕ) → c < a → sum_of (λ j. cond (c == j) v 0 * x j) (range_with_len a n) ≡ 0
  past c v a zero lt = refl
  past c v a (suc n) lt =
      let no : cond (c == a) v 0 ≡ 0 = ap (λ b. cond b v 0) (test_from_ne c a (λ (e : c ≡ a). omega arith)) in
      let gone : cond (c == a) v 0 * x a ≡ 0 = rw no (omega arith) in
      omega (arith, gone, past c v (a + 1) n (omega arith))

  single : (c v a n : ℕ) → a ≤ c → (a + n ≤ c → x c ≡ 0) → sum_of (λ j. cond (c == j) v 0 * x j) (range_with_len a n) ≡ v * x c
  single c v a zero le out = let e : x c ≡ 0 = out (omega arith) in rw e (sym (mul-zero v))
  single c v a (suc n) le out =
      elim (cases_eq c a) [
        | inl e ↦
            let yes : cond (c == a) v 0 ≡ v = ap (λ b. cond b v 0) (test_from_eq c a e) in
            let here : cond (c == a) v 0 * x a ≡ v * x c = rw yes (ap (λ j. v * x j) (sym e)) in
            omega (arith, here, past c v (a + 1) n (omega (arith, e)))
        | inr ne ↦
            let no : cond (c == a) v 0 ≡ 0 = ap (λ b. cond b v 0) (test_from_ne c a ne) in
            let gone : cond (c == a) v 0 * x a ≡ 0 = rw no (omega arith) in
            omega (arith, gone, single c v (a + 1) n (more c a le ne) (λ h. out (omega (arith, h))))
      ]
    where
      more : (m k : ℕ) → k ≤ m → (m ≡ k → ⊥) → k + 1 ≤ m
      more m k h ne = elim (cases_order m k) [ inl e ↦ absurd (ne e) | inr (inl lt) ↦ absurd (omega arith) | inr (inr gt) ↦ omega arith ]

  spread_product : (a b c : ℕ) → (a + b) * c ≡ a * c + b * c
  spread_product a b c = omega arith

  zero_product : (y : ℕ) → 0 * y ≡ 0
  zero_product y = omega arith

  pub form_at : (n : ℕ) → ((j : ℕ) → n ≤ j → x j ≡ 0) → (f : Form) → at_point x f ≡ sum_of (λ j. coefficient f j * x j) (range_with_len 0 n)
  form_at n out [] =
      sym (sum_of-eq (λ j. coefficient [] j * x j) (λ j. 0) (range_with_len 0 n) (Each-all (λ j. coefficient [] j * x j ≡ 0) (λ j. zero_product (x j)) (range_with_len 0 n)) ∙ sum_of-zero (range_with_len 0 n))
  form_at n out (s ∷ f) =
      let js = range_with_len 0 n in
      let a = single s.column s.by 0 n (omega arith) (λ h. out s.column (omega (arith, h))) in
      let b = form_at n out f in
      let c = sum_of-plus (λ j. cond (s.column == j) s.by 0 * x j) (λ j. coefficient f j * x j) js in
      let d = sum_of-eq (λ j. coefficient (s ∷ f) j * x j) (λ j. cond (s.column == j) s.by 0 * x j + coefficient f j * x j) js
      (Each-all (λ j. coefficient (s ∷ f) j * x j ≡ cond (s.column == j) s.by 0 * x j + coefficient f j * x j) (λ j. spread_product (cond (s.column == j) s.by 0) (coefficient f j) (x j)) js) in
      omega (arith, a, b, c, d)

-- ---- a row by columns
step_product : (a b y k m : ℕ) → (pos a -ℤ pos b) *ℤ pos y +ℤ (pos k -ℤ pos m) ≡ pos (a * y + k) -ℤ pos (b * y + m)
step_product a b y k m =
    let z = pos a -ℤ pos b in
    let e : up z + b ≡ a + down z = omega (arith, ints) in
    let f : (up z + b) * y ≡ (a + down z) * y = ap (λ n. n * y) e in
    omega (arith, ints, f)

same_product : (a b y k m : ℕ) → a ≡ b → pos k -ℤ pos m ≡ pos (a * y + k) -ℤ pos (b * y + m)
same_product a b y k m e = let f : a * y ≡ b * y = ap (λ n. n * y) e in omega (arith, ints, f)

module _ (point : List ℤ) (x : ℕ → ℕ) (reads : (j : ℕ) → number_at point j ≡ pos (x j)) where
  terms_value : (most under : Form) (js : List ℕ) →
      left_side (terms_at most under js) point ≡ pos (sum_of (λ j. coefficient most j * x j) js) -ℤ pos (sum_of (λ j. coefficient under j * x j) js)
  terms_value most under [] = refl
  terms_value most under (j ∷ js) =
      let a = coefficient most j in
      let b = coefficient under j in
      let rest = terms_value most under js in
      let K = sum_of (λ k. coefficient most k * x k) js in
      let M = sum_of (λ k. coefficient under k * x k) js in
      cond_both (a == b) (terms_at most under js) (record { column = j; by = pos a -ℤ pos b } ∷ terms_at most under js) (λ ts. left_side ts point ≡ pos (a * x j + K) -ℤ pos (b * x j + M))
      (λ e. rest ∙ same_product a b (x j) K M (eq_from_test a b e))
      (λ e. ap (λ z. (pos a -ℤ pos b) *ℤ z +ℤ left_side (terms_at most under js) point) (reads j) ∙ ap (λ z. (pos a -ℤ pos b) *ℤ pos (x j) +ℤ z) rest ∙ step_product a b (x j) K M)

  module _ (n : ℕ) (out : (j : ℕ) → n ≤ j → x j ≡ 0) where
    row_value : (r : Limit) → left_side (flat_row n r).terms point ≡ pos (at_point x r.most) -ℤ pos (at_point x r.under)
    row_value r =
        terms_value r.most r.under (range_with_len 0 n)
        ∙ ap (λ k. pos k -ℤ pos (sum_of (λ j. coefficient r.under j * x j) (range_with_len 0 n))) (sym (form_at x n out r.most))
        ∙ ap (λ k. pos (at_point x r.most) -ℤ pos k) (sym (form_at x n out r.under))

    met_from : (m u p : ℕ) → m ≤ u + p → (pos m -ℤ pos u) ≤ℤ pos p
    met_from m u p le = omega (arith, ints)

    from_met : (m u p : ℕ) → (pos m -ℤ pos u) ≤ℤ pos p → m ≤ u + p
    from_met m u p le = omega (arith, ints)

    pub rows_met : (rs : List Limit) → AreMet x rs → RowsMet (map (flat_row n) rs) point
    rows_met [] h = tt
    rows_met (r ∷ rs) h =
        (subst (λ z. z ≤ℤ pos r.plus) (sym (row_value r)) (met_from (at_point x r.most) (at_point x r.under) r.plus h.0), rows_met rs h.1)

    pub met_rows : (rs : List Limit) → RowsMet (map (flat_row n) rs) point → AreMet x rs
    met_rows [] h = tt
    met_rows (r ∷ rs) h =
        (from_met (at_point x r.most) (at_point x r.under) r.plus (subst (λ z. z ≤ℤ pos r.plus) (row_value r) h.0), met_rows rs h.1)

-- ---- the objective by columns
dot_range : (g h : ℕ → ℕ) (a : ℕ) (xs : List ℤ) → ((k : ℕ) → k < length xs → number_at xs k ≡ pos (h (a + k))) →
    dot ℤ_ring (map (λ j. pos (g j)) (range_with_len a (length xs))) xs ≡ pos (sum_of (λ j. g j * h j) (range_with_len a (length xs)))
dot_range g h a [] e = refl
dot_range g h a (z ∷ xs) e =
    let plus_none : a + 0 ≡ a = omega arith in
    let first : z ≡ pos (h a) = e 0 (omega arith) ∙ ap (λ j. pos (h j)) plus_none in
    let rest = dot_range g h (a + 1) xs (λ k lt. e (suc k) (omega arith) ∙ ap (λ j. pos (h j)) (omega arith)) in
    ap (λ y. pos (g a) *ℤ y +ℤ dot ℤ_ring (map (λ j. pos (g j)) (range_with_len (a + 1) (length xs))) xs) first
    ∙ ap (λ y. pos (g a) *ℤ pos (h a) +ℤ y) rest
    ∙ sum_up (g a) (h a) (sum_of (λ j. g j * h j) (range_with_len (a + 1) (length xs)))
  where
    sum_up : (m n k : ℕ) → pos m *ℤ pos n +ℤ pos k ≡ pos (m * n + k)
    sum_up m n k = omega (arith, ints)

-- ---- points
number_at-past : (xs : List ℤ) (k : ℕ) → length xs ≤ k → number_at xs k ≡ pos 0
number_at-past [] k le = refl
number_at-past (x ∷ xs) zero le = absurd (omega arith)
number_at-past (x ∷ xs) (suc k) le = number_at-past xs k (omega arith)

abs_of : (z : ℤ) → pos 0 ≤ℤ z → z ≡ pos (unsigned_abs z)
abs_of (pos n) le = refl
abs_of (negsuc n) le = absurd (omega (arith, ints))

number_at-pos : (vs : List ℕ) (k : ℕ) → pos 0 ≤ℤ number_at (map pos vs) k
number_at-pos [] k = omega (arith, ints)
number_at-pos (v ∷ vs) zero = omega (arith, ints)
number_at-pos (v ∷ vs) (suc k) = number_at-pos vs k

reads_from : (vs : List ℕ) (a : ℕ) (x : ℕ → ℕ) → ((k : ℕ) → x (a + k) ≡ at_column (map pos vs) k) → Reads x a vs
reads_from [] a x e = tt
reads_from (v ∷ vs) a x e =
    (ap x (omega arith) ∙ e 0, reads_from vs (a + 1) x (λ k. ap x (omega arith) ∙ e (suc k)))

-- the values of a list as a point
pub point_reads : (vs : List ℕ) → Reads (at_column (map pos vs)) 0 vs
point_reads vs = reads_from vs 0 (at_column (map pos vs)) (λ k. ap (at_column (map pos vs)) (omega arith))

pub below_length : (vs us : List ℕ) → AreBelow vs us → length vs ≡ length us
below_length [] [] h = refl
below_length [] (u ∷ us) h = absurd h
below_length (v ∷ vs) [] h = absurd h
below_length (v ∷ vs) (u ∷ us) h = ap suc (below_length vs us h.1)

pub point_between : (vs us : List ℕ) (k : ℕ) → AreBelow vs us →
    (number_at (map (λ u. pos 0) us) k ≤ℤ number_at (map pos vs) k) × (number_at (map pos vs) k ≤ℤ number_at (map pos us) k)
point_between [] [] k h = (omega (arith, ints), omega (arith, ints))
point_between [] (u ∷ us) k h = absurd h
point_between (v ∷ vs) [] k h = absurd h
point_between (v ∷ vs) (u ∷ us) zero h = (omega (arith, ints), pos_le v u h.0)
  where
    pos_le : (m n : ℕ) → m ≤ n → pos m ≤ℤ pos n
    pos_le m n le = omega (arith, ints)
point_between (v ∷ vs) (u ∷ us) (suc k) h = point_between vs us k h.1

-- rows of a program, by number
pub meets_from : (rs : List Row) (point : List ℤ) → RowsMet (map plain_row rs) point → MeetsRows rs point
meets_from [] point h k lt = absurd (omega arith)
meets_from (r ∷ rs) point h zero lt = h.0
meets_from (r ∷ rs) point h (suc k) lt = meets_from rs point h.1 k (omega arith)

pub meets_to : (rs : List Row) (point : List ℤ) → MeetsRows rs point → RowsMet (map plain_row rs) point
meets_to [] point h = tt
meets_to (r ∷ rs) point h = (h 0 (omega arith), meets_to rs point (λ k lt. h (suc k) (omega arith)))

-- ---- the whole program at a point without numbers below 0
module _ (d : Draft) (point : List ℤ) (long : length point ≡ length d.uppers) (whole : (k : ℕ) → pos 0 ≤ℤ number_at point k) where
  reads_all : (j : ℕ) → number_at point j ≡ pos (at_column point j)
  reads_all j = abs_of (number_at point j) (whole j)

  none_past : (j : ℕ) → length d.uppers ≤ j → at_column point j ≡ 0
  none_past j le = ap unsigned_abs (number_at-past point j (omega (arith, long)))

  pub flat_met : RowsMet (flat d).rows point → AreMet (at_column point) d.rows
  flat_met h = met_rows point (at_column point) reads_all (length d.uppers) none_past d.rows h

  pub met_flat : AreMet (at_column point) d.rows → RowsMet (flat d).rows point
  met_flat h = rows_met point (at_column point) reads_all (length d.uppers) none_past d.rows h

  pub flat_objective : dot ℤ_ring (flat d).costs point ≡ pos (at_point (at_column point) d.objective)
  flat_objective =
      ap (λ n. dot ℤ_ring (map (λ j. pos (coefficient d.objective j)) (range_with_len 0 n)) point) (sym long)
      ∙ dot_range (λ j. coefficient d.objective j) (at_column point) 0 point (λ k lt. reads_all k ∙ ap (λ j. pos (at_column point j)) (omega arith))
      ∙ ap (λ n. pos (sum_of (λ j. coefficient d.objective j * at_column point j) (range_with_len 0 n))) long
      ∙ ap pos (sym (form_at (at_column point) (length d.uppers) none_past d.objective))

-- the values of a list are no numbers below 0
pub point_whole : (vs : List ℕ) (k : ℕ) → pos 0 ≤ℤ number_at (map pos vs) k
point_whole vs k = number_at-pos vs k

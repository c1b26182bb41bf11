-- The first rows of entries.
use Rattle.std.proofs.Common.{◌≡◌, ℕ, ◌+◌, ◌<◌, ◌≤◌, ◌^◌, refl, sym, ap, ◌∙◌, subst, arith, List, [], ◌∷◌, ◌++◌, append_assoc, length, get_or, map, cond, Bool, true, false, eqb, Result, Ok}
use Rattle.std.specs.List.{range_with_len}
use Prim.Native.Nat.{zero, suc}
use Rattle.std.proofs.lemmas.Int.{ints}
use Rattle.std.proofs.lemmas.List.{length-map}
use Rattle.std.proofs.lemmas.List.FromFn.{length-range_with_len}
use lib.IntN.{ℤ, pos, negsuc, ◌*ℤ◌, neg_ℤ}
use Rattle.tetri_algebra.specs.Rational.{ℚ, whole_ℚ}
use Rattle.tetri_algebra.specs.RationalRing.{zero_ℚ}
use Rattle.tetri_num.specs.declared.places.Place.{Place}
use Rattle.tetri_num.specs.Frac.{value}
use Rattle.tetri_ip.specs.declared.programs.Program.{Program}
use Rattle.tetri_ip.specs.declared.programs.Term.{Term}
use Rattle.tetri_ip.specs.Points.{Bounds, IsFit, IsFitRow, IsInBox, coefficient, column_at, number_at, term_at}
use Rattle.tetri_ip.proofs.IntegerProgramLaws.{coefficient_absent, coefficient_at}
use Rattle.tetri_dictionary.specs.declared.lines.Entry.{Entry}
use Rattle.tetri_dictionary.specs.declared.lines.Line.{Line}
use Rattle.tetri_dictionary.specs.declared.sparse.Sparse.{Sparse}
use Rattle.tetri_dictionary.specs.Sparse.{AreEntries, AreLines, IsSparse, line_of, lines_of, number_of, numbers_from, place_at, table_of}
use Rattle.tetri_dictionary.specs.Start.{bound_rows, corner, direction, first_rows, first_table, minus_one_at, objective_row, slack_from, slack_row}
use Rattle.tetri_dictionary.specs.Tables.{Table}
use Rattle.tetri_dictionary.proofs.Entries.{map_push}
use Rattle.tetri_dictionary.proofs.FirstTable.{first_count, map_append, wholes}
use Rattle.tetri_dictionary.proofs.SparseRows.{coefficients_same}
use Rattle.tetri_dictionary.proofs.SparseWalks.{ArePlaces, Formed, formed_entries}

-- a slack's coefficient at a column
abbrev pub slack_is : List Term → List ℤ → ℕ → Result ℚ Place
slack_is ts cs q = Ok (whole_ℚ (neg_ℤ (coefficient ts q *ℤ direction (number_at cs q))))

-- the objective's coefficient at a column
abbrev pub cost_is : List ℤ → ℕ → Result ℚ Place
cost_is cs q = Ok (whole_ℚ (number_at cs q *ℤ direction (number_at cs q)))

ok_same : (x y : ℚ) (o : Result ℚ Place) → o ≡ Ok x → o ≡ Ok y → x ≡ y
ok_same x y o e f = cc

from_zero : (q : ℕ) → 0 + q ≡ q
from_zero q = omega arith

-- ---- a slack
pub column_get : (ts : List Term) (k : ℕ) → get_or (map (λ (t : Term). t.column) ts) k 0 ≡ column_at ts k
column_get [] k = refl
column_get (t ∷ ts) zero = refl
column_get (t ∷ ts) (suc k) = column_get ts k

pub slack_places : (p : Program) (ts : List Term) (right : ℤ) → IsFitRow p ts right → ArePlaces (slack_is ts p.costs.items) (length p.costs.items) (map (λ (t : Term). t.column) ts)
slack_places p ts right f =
    let c = length-map ts (λ (t : Term). t.column) in
    record {
      ascending = λ k m l b. subst (λ z. z < get_or (map (λ (t : Term). t.column) ts) m 0) (sym (column_get ts k)) (subst (λ z. column_at ts k < z) (sym (column_get ts m)) (f.ascending k m l (subst (λ z. m < z) c b)));
      within = λ k b. subst (λ z. z < length p.costs.items) (sym (column_get ts k)) (f.columns k (subst (λ z. k < z) c b));
      others = λ q l ab. ap (λ z. Ok (whole_ℚ (neg_ℤ (z *ℤ direction (number_at p.costs.items q))))) (coefficient_absent ts q (λ k b e. ab k (subst (λ z. k < z) (sym c) b) (column_get ts k ∙ e)))
          ∙ ap (λ z. Ok (whole_ℚ z)) (nothing (direction (number_at p.costs.items q)));
    }
  where
    nothing : (d : ℤ) → neg_ℤ (pos 0 *ℤ d) ≡ pos 0
    nothing d = omega (arith, ints)

-- the number at the column of a term
pub slack_value : (p : Program) (ts : List Term) (right : ℤ) (k column : ℕ) (by : ℤ) (x : ℚ) → IsFitRow p ts right → k < length ts → column ≡ column_at ts k → by ≡ (term_at ts k).by → x ≡ whole_ℚ (neg_ℤ (by *ℤ direction (number_at p.costs.items column))) →
    slack_is ts p.costs.items (get_or (map (λ (t : Term). t.column) ts) k 0) ≡ Ok x
slack_value p ts right k column by x f l ce be xe =
    ap (slack_is ts p.costs.items) (column_get ts k)
    ∙ ap (λ y. Ok (whole_ℚ (neg_ℤ (y *ℤ direction (number_at p.costs.items (column_at ts k)))))) (coefficient_at ts (column_at ts k) k f.ascending l refl ∙ sym be)
    ∙ ap (λ j. Ok (whole_ℚ (neg_ℤ (by *ℤ direction (number_at p.costs.items j))))) (sym ce) ∙ ap Ok (sym xe)

slack_long : (ts : List Term) (j : ℕ) (cs : List ℤ) → length (slack_from ts j cs) ≡ length cs
slack_long ts j [] = refl
slack_long ts j (c ∷ cs) = ap suc (slack_long ts (j + 1) cs)

slack_get : (ts : List Term) (j : ℕ) (cs : List ℤ) (q : ℕ) → q < length cs → get_or (map whole_ℚ (slack_from ts j cs)) q zero_ℚ ≡ whole_ℚ (neg_ℤ (coefficient ts (j + q) *ℤ direction (number_at cs q)))
slack_get ts j [] q h = absurd (omega arith)
slack_get ts j (c ∷ cs) zero h = let e : j ≡ j + 0 = omega arith in ap (λ k. whole_ℚ (neg_ℤ (coefficient ts k *ℤ direction c))) e
slack_get ts j (c ∷ cs) (suc q) h = let e : (j + 1) + q ≡ j + suc q = omega arith in slack_get ts (j + 1) cs q (omega arith) ∙ ap (λ k. whole_ℚ (neg_ℤ (coefficient ts k *ℤ direction (number_at cs q)))) e

pub slack_done : (ts : List Term) (cs : List ℤ) (es : List Entry) → Formed (slack_is ts cs) (length cs) es → numbers_from 0 (length cs) es ≡ map whole_ℚ (slack_from ts 0 cs)
slack_done ts cs es h =
    sym (coefficients_same (length cs) es (map whole_ℚ (slack_from ts 0 cs)) (length-map (slack_from ts 0 cs) whole_ℚ ∙ slack_long ts 0 cs)
    (λ q l. slack_get ts 0 cs q l ∙ ap (λ k. whole_ℚ (neg_ℤ (coefficient ts k *ℤ direction (number_at cs q)))) (from_zero q) ∙ ok_same _ _ (slack_is ts cs q) refl (h.formed q l)))

-- ---- the slack of a column's bounds
minus_long : (j k : ℕ) (cs : List ℤ) → length (minus_one_at j k cs) ≡ length cs
minus_long j k [] = refl
minus_long j k (c ∷ cs) = ap suc (minus_long j (k + 1) cs)

minus_get : (j k : ℕ) (cs : List ℤ) (q : ℕ) → q < length cs → get_or (map whole_ℚ (minus_one_at j k cs)) q zero_ℚ ≡ whole_ℚ (cond (eqb j (k + q)) (negsuc 0) (pos 0))
minus_get j k [] q h = absurd (omega arith)
minus_get j k (c ∷ cs) zero h = let e : k ≡ k + 0 = omega arith in ap (λ i. whole_ℚ (cond (eqb j i) (negsuc 0) (pos 0))) e
minus_get j k (c ∷ cs) (suc q) h = let e : (k + 1) + q ≡ k + suc q = omega arith in minus_get j (k + 1) cs q (omega arith) ∙ ap (λ i. whole_ℚ (cond (eqb j i) (negsuc 0) (pos 0))) e

bound_number : (e : Entry) (q : ℕ) → value e.number ≡ whole_ℚ (negsuc 0) → whole_ℚ (cond (eqb e.place q) (negsuc 0) (pos 0)) ≡ number_of (e ∷ []) q
bound_number e q v = by_test (eqb e.place q)
  where
    by_test : (t : Bool) → whole_ℚ (cond t (negsuc 0) (pos 0)) ≡ cond t (value e.number) zero_ℚ
    by_test true = sym v
    by_test false = refl

pub bound_done : (cs : List ℤ) (es made : List Entry) (e : Entry) → es ≡ [] → made ≡ es ++ (e ∷ []) → value e.number ≡ whole_ℚ (negsuc 0) → numbers_from 0 (length cs) made ≡ map whole_ℚ (minus_one_at e.place 0 cs)
bound_done cs es made e ee me v =
    let s : made ≡ e ∷ [] = me ∙ ap (λ us. us ++ (e ∷ [])) ee in
    ap (numbers_from 0 (length cs)) s
    ∙ sym (coefficients_same (length cs) (e ∷ []) (map whole_ℚ (minus_one_at e.place 0 cs)) (length-map (minus_one_at e.place 0 cs) whole_ℚ ∙ minus_long e.place 0 cs)
    (λ q l. minus_get e.place 0 cs q l ∙ ap (λ i. whole_ℚ (cond (eqb e.place i) (negsuc 0) (pos 0))) (from_zero q) ∙ bound_number e q v))

pub bound_sound : (n : ℕ) (es made : List Entry) (e : Entry) → es ≡ [] → made ≡ es ++ (e ∷ []) → e.place < n → AreEntries n made
bound_sound n es made e ee me l =
    subst (AreEntries n) (sym (me ∙ ap (λ us. us ++ (e ∷ [])) ee)) (record {
      ascending = λ k m h b. absurd (omega arith);
      within = λ k b. by_place k b;
    })
  where
    by_place : (k : ℕ) → k < 1 → place_at (e ∷ []) k < n
    by_place zero b = l
    by_place (suc k) b = absurd (omega arith)

-- ---- the objective
pub cost_none : (cs : List ℤ) (j : ℕ) (c : ℤ) → c ≡ number_at cs j → c ≡ pos 0 → cost_is cs j ≡ Ok zero_ℚ
cost_none cs j c ce ze = ap (λ z. Ok (whole_ℚ (z *ℤ direction z))) (sym ce ∙ ze)

pub cost_value : (cs : List ℤ) (j : ℕ) (c z : ℤ) (x : ℚ) → c ≡ number_at cs j → z ≡ c *ℤ direction c → x ≡ whole_ℚ z → cost_is cs j ≡ Ok x
cost_value cs j c z x ce ze xe = ap (λ y. Ok (whole_ℚ (y *ℤ direction y))) (sym ce) ∙ ap (λ y. Ok (whole_ℚ y)) (sym ze) ∙ ap Ok (sym xe)

pub next_formed : (g : ℕ → Result ℚ Place) (j : ℕ) (es : List Entry) → Formed g (suc j) es → Formed g (j + 1) es
next_formed g j es h = let e : suc j ≡ j + 1 = omega arith in subst (λ k. Formed g k es) e h

cost_get : (cs : List ℤ) (q : ℕ) → q < length cs → get_or (map whole_ℚ (map (λ c. c *ℤ direction c) cs)) q zero_ℚ ≡ whole_ℚ (number_at cs q *ℤ direction (number_at cs q))
cost_get [] q h = absurd (omega arith)
cost_get (c ∷ cs) zero h = refl
cost_get (c ∷ cs) (suc q) h = cost_get cs q (omega arith)

pub cost_done : (cs : List ℤ) (j : ℕ) (es : List Entry) → j ≡ length cs → Formed (cost_is cs) j es → numbers_from 0 (length cs) es ≡ map whole_ℚ (map (λ c. c *ℤ direction c) cs)
cost_done cs j es e h =
    let n = length cs in
    let f = subst (λ k. Formed (cost_is cs) k es) e h in
    sym (coefficients_same n es (map whole_ℚ (map (λ c. c *ℤ direction c) cs)) (length-map (map (λ c. c *ℤ direction c) cs) whole_ℚ ∙ length-map cs (λ c. c *ℤ direction c))
    (λ q l. cost_get cs q l ∙ ok_same _ _ (cost_is cs q) refl (f.formed q l)))

pub cost_sound : (cs : List ℤ) (j : ℕ) (es : List Entry) → j ≡ length cs → Formed (cost_is cs) j es → AreEntries (length cs) es
cost_sound cs j es e h = formed_entries (cost_is cs) j (length cs) es h (at_most j (length cs) e)
  where
    at_most : (a b : ℕ) → a ≡ b → a ≤ b
    at_most a b e = omega arith

-- ---- one more row
pub line_pushed : (n : ℕ) (done made : List Line) (l : Line) (r : List ℤ) (rest all : List (List ℤ)) → made ≡ done ++ (l ∷ []) → line_of n l ≡ map whole_ℚ r → all ≡ r ∷ rest →
    lines_of n made ++ wholes rest ≡ lines_of n done ++ wholes all
line_pushed n done made l r rest all me ve ae =
    ap (λ ys. lines_of n ys ++ wholes rest) me
    ∙ ap (λ zs. zs ++ wholes rest) (map_push (line_of n) done l)
    ∙ append_assoc (lines_of n done) (line_of n l ∷ []) (wholes rest)
    ∙ ap (λ z. lines_of n done ++ (z ∷ wholes rest)) ve
    ∙ ap (λ zs. lines_of n done ++ wholes zs) (sym ae)

-- ---- the whole dictionary
pub lines_are : (p : Program) (b : Bounds) (start : List ℤ) (slacks bounds ls : List Line) (o : Line) → start ≡ corner p.costs.items b.lower b.upper →
    let n = length p.costs.items in
    lines_of n slacks ≡ wholes (map (slack_row p.costs.items start) p.rows.items) → lines_of n bounds ≡ lines_of n slacks ++ wholes (bound_rows 0 p.costs.items b.lower b.upper) →
    line_of n o ≡ map whole_ℚ (objective_row p.costs.items start) → ls ≡ bounds ++ (o ∷ []) → lines_of n ls ≡ wholes (first_rows p b)
lines_are p b start slacks bounds ls o se e f g h =
    let n = length p.costs.items in
    let cs = p.costs.items in
    let A : List ℤ → List (List ℤ) = λ s. map (slack_row cs s) p.rows.items in
    let B = bound_rows 0 cs b.lower b.upper in
    ap (lines_of n) h ∙ map_push (line_of n) bounds o
    ∙ ap (λ zs. zs ++ (line_of n o ∷ [])) (f ∙ ap (λ zs. zs ++ wholes B) e)
    ∙ ap (λ z. (wholes (A start) ++ wholes B) ++ (z ∷ [])) g
    ∙ ap (λ zs. zs ++ (map whole_ℚ (objective_row cs start) ∷ [])) (sym (map_append (map whole_ℚ) (A start) B))
    ∙ sym (map_append (map whole_ℚ) (A start ++ B) (objective_row cs start ∷ []))
    ∙ ap (λ s. wholes ((A s ++ B) ++ (objective_row cs s ∷ []))) se

pub sparse_is : (p : Program) (b : Bounds) (t : Sparse) (n k : ℕ) → n ≡ length p.costs.items → k ≡ length p.rows.items + length p.costs.items → t.nonbasic.items ≡ range_with_len 0 n → t.basic.items ≡ range_with_len n k →
    lines_of (length p.costs.items) t.lines.items ≡ wholes (first_rows p b) → table_of t ≡ first_table p b
unfolding first_table
sparse_is p b t n k ne ke e f g =
    let made : List ℕ → List ℕ → List (List ℚ) → Table = λ us vs rs. record { nonbasic = us; basic = vs; rows = rs } in
    let c : length t.nonbasic.items ≡ length p.costs.items = ap (λ (zs : List ℕ). length zs) e ∙ length-range_with_len 0 n ∙ ne in
    ap (λ us. made us t.basic.items (lines_of (length t.nonbasic.items) t.lines.items)) (e ∙ ap (range_with_len 0) ne)
    ∙ ap (λ vs. made (range_with_len 0 (length p.costs.items)) vs (lines_of (length t.nonbasic.items) t.lines.items)) (f ∙ ap (λ m. range_with_len m k) ne ∙ ap (range_with_len (length p.costs.items)) ke)
    ∙ ap (λ m. made (range_with_len 0 (length p.costs.items)) (range_with_len (length p.costs.items) (length p.rows.items + length p.costs.items)) (lines_of m t.lines.items)) c
    ∙ ap (λ rs. made (range_with_len 0 (length p.costs.items)) (range_with_len (length p.costs.items) (length p.rows.items + length p.costs.items)) rs) g

pub sparse_sound : (p : Program) (b : Bounds) (t : Sparse) (n k : ℕ) → IsFit p → IsInBox p b → n ≡ length p.costs.items → k ≡ length p.rows.items + length p.costs.items → t.nonbasic.items ≡ range_with_len 0 n → t.basic.items ≡ range_with_len n k →
    lines_of (length p.costs.items) t.lines.items ≡ wholes (first_rows p b) → AreLines (length p.costs.items) t.lines.items → IsSparse t
sparse_sound p b t n k fit i ne ke e f g h =
    let a : length t.nonbasic.items ≡ length p.costs.items = ap (λ (zs : List ℕ). length zs) e ∙ length-range_with_len 0 n ∙ ne in
    let c : length t.basic.items ≡ length p.rows.items + length p.costs.items = ap (λ (zs : List ℕ). length zs) f ∙ length-range_with_len n k ∙ ke in
    let m : length t.lines.items ≡ (length p.rows.items + length p.costs.items) + 1 =
    sym (length-map t.lines.items (line_of (length p.costs.items))) ∙ ap (λ (zs : List (List ℚ)). length zs) g ∙ length-map (first_rows p b) (map whole_ℚ) ∙ first_count p b i in
    record {
      rows = m ∙ ap (λ z. z + 1) (sym c);
      lines = subst (λ z. AreLines z t.lines.items) (sym a) h;
      few_rows = few (length p.rows.items) (length p.costs.items) (length t.lines.items) m fit.few_rows fit.few_columns;
      few_columns = subst (λ z. z < 2 ^ 31) (sym a) fit.few_columns;
    }
  where
    few : (m n k : ℕ) → k ≡ (m + n) + 1 → m < 2 ^ 31 → n < 2 ^ 31 → k < 2 ^ 32
    few m n k e h g = omega arith

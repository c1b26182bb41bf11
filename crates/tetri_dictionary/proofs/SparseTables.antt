-- Sparse dictionaries beside their tables.
use Rattle.std.proofs.Common.{◌≡◌, ℕ, ◌+◌, ◌^◌, ◌<◌, sym, ap, ◌∙◌, subst, List, length, get_or, set, true, Option, Some, None, Result, Ok, Err, IfOk, IfSome}
use Rattle.std.specs.Global.{Vec}
use Rattle.std.specs.Vec.{with_items}
use Rattle.std.proofs.lemmas.List.{length-set}
use Rattle.tetri_algebra.specs.Rational.{ℚ}
use Rattle.tetri_algebra.specs.RationalRing.{zero_ℚ}
use Rattle.tetri_num.specs.declared.places.Place.{Place}
use Rattle.tetri_num.specs.Frac.{value}
use Rattle.tetri_dictionary.specs.declared.choices.Candidate.{Candidate}
use Rattle.tetri_dictionary.specs.declared.fault.PivotFault.{PivotFault}
use Rattle.tetri_dictionary.specs.declared.fault.PivotFault.TheVariants.{Past, NoMemory}
use Rattle.tetri_dictionary.specs.declared.lines.Entry.{Entry}
use Rattle.tetri_dictionary.specs.declared.lines.Line.{Line}
use Rattle.tetri_dictionary.specs.declared.sparse.Sparse.{Sparse}
use Rattle.tetri_dictionary.specs.Candidates.{IsCandidate}
use Rattle.tetri_dictionary.specs.Choices.{entering, entering_from, has_positive, leaving, leaving_from}
use Rattle.tetri_dictionary.specs.Faults.{IsFault}
use Rattle.tetri_dictionary.specs.Pivots.{pivoted, pivoted_rows}
use Rattle.tetri_dictionary.specs.Sparse.{AreEntries, AreLines, IsSparse, line_of, lines_of, number_of, numbers_from, table_of}
use Rattle.tetri_base.specs.ResultSteps.{then_ok}
use Rattle.tetri_dictionary.specs.Tables.{Table, coefficients_of, constant_of, is_positive, row_at}
use Rattle.tetri_dictionary.proofs.Choosing.{coefficient_at}
use Rattle.tetri_dictionary.proofs.FullTables.{items_are}
use Rattle.tetri_dictionary.proofs.SparsePivots.{line_at}
use Rattle.tetri_dictionary.proofs.SparseRows.{coefficient_get}

-- the row that the code reads
pub line_read : (t : Sparse) (i : ℕ) (l : Line) → i < length t.lines.items → l ≡ get_or t.lines.items i l → row_at (table_of t) i ≡ line_of (length t.nonbasic.items) l
line_read t i l h e = line_at (length t.nonbasic.items) t.lines.items i l h ∙ ap (line_of (length t.nonbasic.items)) (sym e)

pub line_sound : (t : Sparse) (i : ℕ) (l : Line) → IsSparse t → i < length t.lines.items → l ≡ get_or t.lines.items i l → AreEntries (length t.nonbasic.items) l.entries.items
line_sound t i l s h e = subst (λ (y : Line). AreEntries (length t.nonbasic.items) y.entries.items) (sym e) (s.lines i l h)

pub constant_read : (t : Sparse) (i : ℕ) (l : Line) → i < length t.lines.items → l ≡ get_or t.lines.items i l → value l.constant ≡ constant_of (row_at (table_of t) i)
constant_read t i l h e = sym (ap constant_of (line_read t i l h e))

pub coefficient_read : (t : Sparse) (i j : ℕ) (l : Line) → i < length t.lines.items → l ≡ get_or t.lines.items i l → j < length t.nonbasic.items → number_of l.entries.items j ≡ get_or (coefficients_of (row_at (table_of t) i)) j zero_ℚ
coefficient_read t i j l h e m = sym (ap (λ (xs : List ℚ). get_or (coefficients_of xs) j zero_ℚ) (line_read t i l h e) ∙ coefficient_get (length t.nonbasic.items) l.entries.items j m)

pub leaving_is : (t : Sparse) (n : ℕ) (basic : List ℕ) (ls : List Line) (o : Option ℕ) → n ≡ length t.nonbasic.items → basic ≡ t.basic.items → ls ≡ t.lines.items → o ≡ leaving_from basic 0 basic (lines_of n ls) None → o ≡ leaving (table_of t)
unfolding leaving
leaving_is t n basic ls o ne be le e =
    e ∙ ap (λ bs. leaving_from bs 0 bs (lines_of n ls) None) be ∙ ap (λ us. leaving_from t.basic.items 0 t.basic.items (lines_of n us) None) le
    ∙ ap (λ m. leaving_from t.basic.items 0 t.basic.items (lines_of m t.lines.items) None) ne

pub entering_is : (t : Sparse) (i k : ℕ) (vs : List ℕ) (l o : Line) (es ds : List Entry) → vs ≡ t.nonbasic.items → i < length t.lines.items → length t.basic.items < length t.lines.items → k ≡ length t.basic.items →
    l ≡ get_or t.lines.items i l → es ≡ l.entries.items → o ≡ get_or t.lines.items k o → ds ≡ o.entries.items →
    entering_from vs i 0 (numbers_from 0 (length vs) es) (numbers_from 0 (length vs) ds) None ≡ entering (table_of t) i
unfolding entering
entering_is t i k vs l o es ds ve h g ke le ee oe de =
    let n = length t.nonbasic.items in
    let oe' : o ≡ get_or t.lines.items (length t.basic.items) o = oe ∙ ap (λ j. get_or t.lines.items j o) ke in
    ap (λ (us : List ℕ). entering_from us i 0 (numbers_from 0 (length us) es) (numbers_from 0 (length us) ds) None) ve
    ∙ ap (λ xs. entering_from t.nonbasic.items i 0 (numbers_from 0 n xs) (numbers_from 0 n ds) None) ee
    ∙ ap (λ xs. entering_from t.nonbasic.items i 0 (numbers_from 0 n l.entries.items) (numbers_from 0 n xs) None) de
    ∙ ap (λ (xs : List ℚ). entering_from t.nonbasic.items i 0 (coefficients_of xs) (numbers_from 0 n o.entries.items) None) (sym (line_read t i l h le))
    ∙ ap (λ (xs : List ℚ). entering_from t.nonbasic.items i 0 (coefficients_of (row_at (table_of t) i)) (coefficients_of xs) None) (sym (line_read t (length t.basic.items) o g oe'))

pub candidate_is : (t : Sparse) (i : ℕ) (l : Line) (vs : List ℕ) (es : List Entry) (o : Option Candidate) → i < length t.lines.items → l ≡ get_or t.lines.items i l → vs ≡ t.nonbasic.items → es ≡ l.entries.items →
    IfSome o (λ c. (c.place < length vs) × (is_positive (number_of es c.place) ≡ true)) → IfSome o (λ c. IsCandidate t.nonbasic.items (row_at (table_of t) i) c)
candidate_is t i l vs es None h le ve ee p = tt
candidate_is t i l vs es (Some c) h le ve ee p =
    let m : c.place < length t.nonbasic.items = subst (λ (us : List ℕ). c.place < length us) ve p.0 in
    record {
      within = m;
      positive =
          ap is_positive (sym (coefficient_at (row_at (table_of t) i) c.place) ∙ sym (coefficient_read t i c.place l h le m) ∙ ap (λ xs. number_of xs c.place) (sym ee)) ∙ p.1;
    }

pub pivoted_done : (t : Sparse) (n i j x y : ℕ) (old new : List Line) → n ≡ length t.nonbasic.items → old ≡ t.lines.items → pivoted_rows n i j (lines_of n old) ≡ Ok (lines_of n new) → length new ≡ length old →
    x ≡ get_or t.basic.items i 0 → y ≡ get_or t.nonbasic.items j 0 →
    pivoted (table_of t) i j ≡ Ok (record { nonbasic = set t.nonbasic.items j x; basic = set t.basic.items i y; rows = lines_of (length (set t.nonbasic.items j x)) ((with_items t.lines new).items) })
unfolding pivoted
pivoted_done t n i j x y old new ne oe e le xe ye =
    let nb = t.nonbasic.items in
    let bs = t.basic.items in
    let made : ℕ → ℕ → List (List ℚ) → Result Table Place = λ u v rows. Ok (record { nonbasic = set nb j u; basic = set bs i v; rows = rows }) in
    ap (λ o. then_ok o (made (get_or bs i 0) (get_or nb j 0))) (ap (λ k. pivoted_rows k i j (lines_of k t.lines.items)) (sym ne) ∙ ap (λ us. pivoted_rows n i j (lines_of n us)) (sym oe) ∙ e)
    ∙ ap (λ u. made u (get_or nb j 0) (lines_of n new)) (sym xe)
    ∙ ap (λ v. made x v (lines_of n new)) (sym ye)
    ∙ ap (λ us. made x y (lines_of n us)) (sym (items_are t.lines new (le ∙ ap length oe)))
    ∙ ap (λ k. made x y (lines_of k (with_items t.lines new).items)) (ne ∙ sym (length-set nb j x))

pub pivoted_fault : (t : Sparse) (n i j : ℕ) (old : List Line) (f : PivotFault) → n ≡ length t.nonbasic.items → old ≡ t.lines.items → IsFault f (pivoted_rows n i j (lines_of n old)) → IsFault f (pivoted (table_of t) i j)
unfolding pivoted
pivoted_fault t n i j old (Past p) ne oe e =
    ap (λ o. then_ok o (λ rows. Ok (record { nonbasic = set t.nonbasic.items j (get_or t.basic.items i 0); basic = set t.basic.items i (get_or t.nonbasic.items j 0); rows = rows })))
    (ap (λ k. pivoted_rows k i j (lines_of k t.lines.items)) (sym ne) ∙ ap (λ us. pivoted_rows n i j (lines_of n us)) (sym oe) ∙ e)
pivoted_fault t n i j old NoMemory ne oe e = tt

pub rises_is : (t : Sparse) (i n : ℕ) (l : Line) (es : List Entry) → i < length t.lines.items → l ≡ get_or t.lines.items i l → es ≡ l.entries.items → n ≡ length t.nonbasic.items → has_positive (numbers_from 0 n es) ≡ has_positive (coefficients_of (row_at (table_of t) i))
rises_is t i n l es h le ee ne =
    ap (λ us. has_positive (numbers_from 0 n us)) ee ∙ ap (λ m. has_positive (numbers_from 0 m l.entries.items)) ne
    ∙ ap (λ (xs : List ℚ). has_positive (coefficients_of xs)) (sym (line_read t i l h le))

pub candidates_are : (t : Sparse) (i : ℕ) (l : Line) (vs : List ℕ) (es : List Entry) (r : Result (Option Candidate) Place) → i < length t.lines.items → l ≡ get_or t.lines.items i l → vs ≡ t.nonbasic.items → es ≡ l.entries.items →
    IfOk r (λ o. IfSome o (λ c. (c.place < length vs) × (is_positive (number_of es c.place) ≡ true))) → IfOk r (λ o. IfSome o (λ c. IsCandidate t.nonbasic.items (row_at (table_of t) i) c))
candidates_are t i l vs es (Ok o) h le ve ee p = candidate_is t i l vs es o h le ve ee p
candidates_are t i l vs es (Err e) h le ve ee p = p

-- what a pivot leaves is sound
pub pivot_sound : (t after : Sparse) (n i j x y : ℕ) (old new : List Line) → IsSparse t → n ≡ length t.nonbasic.items → old ≡ t.lines.items → length new ≡ length old →
    after.nonbasic.items ≡ set t.nonbasic.items j x → after.basic.items ≡ set t.basic.items i y → after.lines ≡ with_items t.lines new → AreLines n new → IsSparse after
pivot_sound t after n i j x y old new s ne oe le ae be ce h =
    let a : length after.nonbasic.items ≡ length t.nonbasic.items = ap (λ (zs : List ℕ). length zs) ae ∙ length-set t.nonbasic.items j x in
    let b : length after.basic.items ≡ length t.basic.items = ap (λ (zs : List ℕ). length zs) be ∙ length-set t.basic.items i y in
    let d : after.lines.items ≡ new = ap (λ (v : Vec Line). v.items) ce ∙ items_are t.lines new (le ∙ ap length oe) in
    let m : length after.lines.items ≡ length t.lines.items = ap (λ (zs : List Line). length zs) d ∙ le ∙ ap length oe in
    record {
      rows = m ∙ s.rows ∙ ap (λ z. z + 1) (sym b);
      lines = subst (λ (ls : List Line). AreLines (length after.nonbasic.items) ls) (sym d) (subst (λ z. AreLines z new) (ne ∙ sym a) h);
      few_rows = subst (λ z. z < 2 ^ 32) (sym m) s.few_rows;
      few_columns = subst (λ z. z < 2 ^ 31) (sym a) s.few_columns;
    }

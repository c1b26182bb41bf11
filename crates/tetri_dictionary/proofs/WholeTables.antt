-- Dictionaries of whole numbers beside their tables.
use Rattle.std.proofs.Common.{◌≡◌, ℕ, ◌+◌, ◌^◌, ◌<◌, sym, ap, ◌∙◌, subst, arith, List, Bool, length, get_or, set, Option, None, Result, Ok}
use Prim.Native.Nat.{suc}
use Rattle.std.specs.Global.{Vec}
use Rattle.std.specs.Vec.{with_items}
use Rattle.std.proofs.lemmas.List.{length-set}
use Rattle.tetri_algebra.specs.Rational.{ℚ}
use Rattle.tetri_algebra.specs.RationalRing.{zero_ℚ}
use Rattle.tetri_num.specs.declared.places.Place.{Place}
use Rattle.tetri_dictionary.specs.declared.fault.PivotFault.{PivotFault}
use Rattle.tetri_dictionary.specs.declared.fault.PivotFault.TheVariants.{Past, NoMemory}
use Rattle.tetri_dictionary.specs.declared.mixed.MixedRow.{MixedRow}
use Rattle.tetri_dictionary.specs.declared.whole.Whole.{Whole}
use Rattle.tetri_dictionary.specs.Choices.{entering, entering_from, leaving, leaving_from}
use Rattle.tetri_dictionary.specs.Below.{below_of}
use Rattle.tetri_dictionary.specs.Holders.{AreHolders}
use Rattle.tetri_dictionary.specs.Faults.{IsFault}
use Rattle.tetri_dictionary.specs.Mixed.{mixed_row, mixed_rows, IsMixedRow, AreMixedRows}
use Rattle.tetri_dictionary.specs.Pivots.{pivoted, pivoted_rows}
use Rattle.tetri_base.specs.ResultSteps.{then_ok}
use Rattle.tetri_dictionary.specs.Tables.{Table, coefficients_of, constant_of, row_at}
use Rattle.tetri_dictionary.specs.Whole.{IsWhole, table_of}
use Rattle.tetri_dictionary.proofs.Choosing.{coefficient_at}
use Rattle.tetri_dictionary.proofs.FullTables.{items_are}
use Rattle.tetri_dictionary.proofs.MixedPivots.{mixed_read}

-- the row that the code reads
pub row_read : (t : Whole) (i : ℕ) (r : MixedRow) → i < length t.rows.items → r ≡ get_or t.rows.items i r → row_at (table_of t) i ≡ mixed_row r
row_read t i r h e = mixed_read t.rows.items i r h e

pub row_sound : (t : Whole) (i : ℕ) (r : MixedRow) → IsWhole t → i < length t.rows.items → r ≡ get_or t.rows.items i r → IsMixedRow (length t.nonbasic.items) r
row_sound t i r s h e = subst (λ (y : MixedRow). IsMixedRow (length t.nonbasic.items) y) (sym e) (s.wide i r h)

pub constant_read : (t : Whole) (i : ℕ) (r : MixedRow) (x : ℚ) → i < length t.rows.items → r ≡ get_or t.rows.items i r → x ≡ get_or (mixed_row r) 0 zero_ℚ → x ≡ constant_of (row_at (table_of t) i)
constant_read t i r x h e xe = xe ∙ sym (ap constant_of (row_read t i r h e))

pub coefficient_read : (t : Whole) (i j : ℕ) (r : MixedRow) (x : ℚ) → i < length t.rows.items → r ≡ get_or t.rows.items i r → x ≡ get_or (mixed_row r) (j + 1) zero_ℚ → x ≡ get_or (coefficients_of (row_at (table_of t) i)) j zero_ℚ
coefficient_read t i j r x h e xe =
    let s : j + 1 ≡ suc j = omega arith in
    xe ∙ ap (λ k. get_or (mixed_row r) k zero_ℚ) s ∙ sym (coefficient_at (mixed_row r) j) ∙ sym (ap (λ (xs : List ℚ). get_or (coefficients_of xs) j zero_ℚ) (row_read t i r h e))

pub leaving_is : (t : Whole) (basic : List ℕ) (below : List Bool) (o : Option ℕ) → IsWhole t → basic ≡ t.basic.items → below ≡ t.below.items → ((rows : List (List ℚ)) → below ≡ below_of rows → o ≡ leaving_from basic 0 basic rows None) → o ≡ leaving (table_of t)
unfolding leaving
leaving_is t basic below o s be re h = h (mixed_rows t.rows.items) (re ∙ s.below) ∙ ap (λ bs. leaving_from bs 0 bs (mixed_rows t.rows.items) None) be

pub entering_is : (t : Whole) (i k : ℕ) (vs : List ℕ) (r o : MixedRow) → vs ≡ t.nonbasic.items → i < length t.rows.items → length t.basic.items < length t.rows.items → k ≡ length t.basic.items →
    r ≡ get_or t.rows.items i r → o ≡ get_or t.rows.items k o → entering_from vs i 0 (coefficients_of (mixed_row r)) (coefficients_of (mixed_row o)) None ≡ entering (table_of t) i
unfolding entering
entering_is t i k vs r o ve h g ke re oe =
    let oe' : o ≡ get_or t.rows.items (length t.basic.items) o = oe ∙ ap (λ j. get_or t.rows.items j o) ke in
    ap (λ (us : List ℕ). entering_from us i 0 (coefficients_of (mixed_row r)) (coefficients_of (mixed_row o)) None) ve
    ∙ ap (λ (xs : List ℚ). entering_from t.nonbasic.items i 0 (coefficients_of xs) (coefficients_of (mixed_row o)) None) (sym (row_read t i r h re))
    ∙ ap (λ (xs : List ℚ). entering_from t.nonbasic.items i 0 (coefficients_of (row_at (table_of t) i)) (coefficients_of xs) None) (sym (row_read t (length t.basic.items) o g oe'))

pub pivoted_done : (t : Whole) (n i j x y : ℕ) (old new : List MixedRow) → n ≡ length t.nonbasic.items → old ≡ t.rows.items → pivoted_rows n i j (mixed_rows old) ≡ Ok (mixed_rows new) → length new ≡ length old →
    x ≡ get_or t.basic.items i 0 → y ≡ get_or t.nonbasic.items j 0 →
    pivoted (table_of t) i j ≡ Ok (record { nonbasic = set t.nonbasic.items j x; basic = set t.basic.items i y; rows = mixed_rows ((with_items t.rows new).items) })
unfolding pivoted
pivoted_done t n i j x y old new ne oe e le xe ye =
    let nb = t.nonbasic.items in
    let bs = t.basic.items in
    let made : ℕ → ℕ → List (List ℚ) → Result Table Place = λ u v rows. Ok (record { nonbasic = set nb j u; basic = set bs i v; rows = rows }) in
    ap (λ o. then_ok o (made (get_or bs i 0) (get_or nb j 0))) (ap (λ k. pivoted_rows k i j (mixed_rows t.rows.items)) (sym ne) ∙ ap (λ us. pivoted_rows n i j (mixed_rows us)) (sym oe) ∙ e)
    ∙ ap (λ u. made u (get_or nb j 0) (mixed_rows new)) (sym xe)
    ∙ ap (λ v. made x v (mixed_rows new)) (sym ye)
    ∙ ap (λ us. made x y (mixed_rows us)) (sym (items_are t.rows new (le ∙ ap length oe)))

pub pivoted_fault : (t : Whole) (n i j : ℕ) (old : List MixedRow) (f : PivotFault) → n ≡ length t.nonbasic.items → old ≡ t.rows.items → IsFault f (pivoted_rows n i j (mixed_rows old)) → IsFault f (pivoted (table_of t) i j)
unfolding pivoted
pivoted_fault t n i j old (Past p) ne oe e =
    ap (λ o. then_ok o (λ rows. Ok (record { nonbasic = set t.nonbasic.items j (get_or t.basic.items i 0); basic = set t.basic.items i (get_or t.nonbasic.items j 0); rows = rows })))
    (ap (λ k. pivoted_rows k i j (mixed_rows t.rows.items)) (sym ne) ∙ ap (λ us. pivoted_rows n i j (mixed_rows us)) (sym oe) ∙ e)
pivoted_fault t n i j old NoMemory ne oe e = tt

-- what a pivot leaves is sound
pub pivot_sound : (t after : Whole) (n i j x y : ℕ) (old new : List MixedRow) → IsWhole t → n ≡ length t.nonbasic.items → old ≡ t.rows.items → length new ≡ length old →
    after.nonbasic.items ≡ set t.nonbasic.items j x → after.basic.items ≡ set t.basic.items i y → after.rows ≡ with_items t.rows new → AreMixedRows n new → after.below.items ≡ below_of (mixed_rows new) → AreHolders n after.holders.items (mixed_rows new) → IsWhole after
pivot_sound t after n i j x y old new s ne oe le ae be ce h bh hh =
    let a : length after.nonbasic.items ≡ length t.nonbasic.items = ap (λ (zs : List ℕ). length zs) ae ∙ length-set t.nonbasic.items j x in
    let b : length after.basic.items ≡ length t.basic.items = ap (λ (zs : List ℕ). length zs) be ∙ length-set t.basic.items i y in
    let d : after.rows.items ≡ new = ap (λ (v : Vec MixedRow). v.items) ce ∙ items_are t.rows new (le ∙ ap length oe) in
    let m : length after.rows.items ≡ length t.rows.items = ap (λ (zs : List MixedRow). length zs) d ∙ le ∙ ap length oe in
    record {
      rows = m ∙ s.rows ∙ ap (λ z. z + 1) (sym b);
      wide = subst (λ (us : List MixedRow). AreMixedRows (length after.nonbasic.items) us) (sym d) (subst (λ z. AreMixedRows z new) (ne ∙ sym a) h);
      below = bh ∙ ap (λ (us : List MixedRow). below_of (mixed_rows us)) (sym d);
      holders = subst (λ (us : List MixedRow). AreHolders (length after.nonbasic.items) after.holders.items (mixed_rows us)) (sym d) (subst (λ z. AreHolders z after.holders.items (mixed_rows new)) (ne ∙ sym a) hh);
      few_rows = subst (λ z. z < 2 ^ 32) (sym m) s.few_rows;
      few_columns = subst (λ z. z < 2 ^ 31) (sym a) s.few_columns;
    }

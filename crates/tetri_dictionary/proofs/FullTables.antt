-- Steps of the code's tables.
use Rattle.std.proofs.Common.{◌≡◌, ℕ, ◌+◌, ◌<◌, refl, sym, ap, ◌∙◌, arith, List, [], ◌∷◌, ◌++◌, length, get_or, set, take, drop, Option, Some, None, Result, Ok, Err}
use Rattle.std.specs.Global.{Vec}
use Prim.Native.Nat.{zero, suc}
use Rattle.std.specs.Vec.{with_items}
use Rattle.tetri_algebra.specs.Rational.{ℚ}
use Rattle.tetri_algebra.specs.RationalRing.{zero_ℚ}
use Rattle.tetri_num.specs.Frac.{value}
use Rattle.tetri_dictionary.proofs.Choosing.{coefficient_at}
use Rattle.tetri_dictionary.proofs.Entries.{value_at_next}
use Rattle.tetri_num.specs.declared.fractions.Frac.{Frac}
use Rattle.tetri_num.specs.declared.places.Place.{Place}
use Rattle.tetri_dictionary.specs.declared.fault.PivotFault.{PivotFault}
use Rattle.tetri_dictionary.specs.declared.fault.PivotFault.TheVariants.{Past, NoMemory}
use Rattle.tetri_dictionary.specs.declared.full.Full.{Full}
use Rattle.tetri_dictionary.specs.Choices.{leaving, leaving_from, entering, entering_from}
use Rattle.tetri_dictionary.specs.Faults.{IsFault}
use Rattle.tetri_dictionary.specs.Fractions.{values, rows_of}
use Rattle.tetri_dictionary.specs.Full.{table_of}
use Rattle.tetri_dictionary.specs.Pivots.{pivoted, pivoted_rows}
use Rattle.tetri_base.specs.ResultSteps.{then_ok}
use Rattle.tetri_dictionary.specs.Tables.{Table, coefficients_of, row_at}
use Rattle.tetri_dictionary.proofs.TableRows.{row_of_table, take_front}

-- ---- leaving
pub leaving_is : (t : Full) (basic : List ℕ) (rows : List (Vec Frac)) (o : Option ℕ) → basic ≡ t.basic.items → rows ≡ t.rows.items → o ≡ leaving_from basic 0 basic (rows_of rows) None → o ≡ leaving (table_of t)
unfolding leaving
leaving_is t basic rows o be re e = e ∙ ap (λ bs. leaving_from bs 0 bs (rows_of rows) None) be ∙ ap (λ rs. leaving_from t.basic.items 0 t.basic.items (rows_of rs) None) re

-- ---- entering
-- the row that the code reads at a place
pub row_read : (t : Full) (k m : ℕ) (r : Vec Frac) (row : List Frac) → k ≡ m → m < length t.rows.items → r ≡ get_or t.rows.items k r → row ≡ r.items → values row ≡ row_at (table_of t) m
row_read t k m r row ke h re oe =
    ap values (oe ∙ ap (λ (y : Vec Frac). y.items) (re ∙ ap (λ j. get_or t.rows.items j r) ke)) ∙ sym (row_of_table t.rows.items m r h)

pub entering_is : (t : Full) (i k : ℕ) (vs : List ℕ) (r s : Vec Frac) (row objective : List Frac) → vs ≡ t.nonbasic.items → i < length t.rows.items → length t.basic.items < length t.rows.items → k ≡ length t.basic.items →
    r ≡ get_or t.rows.items i r → row ≡ r.items → s ≡ get_or t.rows.items k s → objective ≡ s.items →
    entering_from vs i 0 (coefficients_of (values row)) (coefficients_of (values objective)) None ≡ entering (table_of t) i
unfolding entering
entering_is t i k vs r s row objective ve h g ke re oe se de =
    ap (λ us. entering_from us i 0 (coefficients_of (values row)) (coefficients_of (values objective)) None) ve
    ∙ ap (λ xs. entering_from t.nonbasic.items i 0 (coefficients_of xs) (coefficients_of (values objective)) None) (row_read t i i r row refl h re oe)
    ∙ ap (λ xs. entering_from t.nonbasic.items i 0 (coefficients_of (row_at (table_of t) i)) (coefficients_of xs) None) (row_read t k (length t.basic.items) s objective ke g se de)

pub coefficient_read : (t : Full) (i j : ℕ) (r : Vec Frac) (x : Frac) → i < length t.rows.items → j + 1 < length r.items → r ≡ get_or t.rows.items i r → x ≡ get_or r.items (j + 1) x → value x ≡ get_or (coefficients_of (row_at (table_of t) i)) j zero_ℚ
coefficient_read t i j r x h g re xe =
    sym (coefficient_at (row_at (table_of t) i) j ∙ ap (λ (xs : List ℚ). get_or xs (suc j) zero_ℚ) (sym (row_read t i i r r.items refl h re refl)) ∙ value_at_next r.items j x g xe)

-- ---- the pivot
pub items_are : {A : Type 0} → (v : Vec A) (new : List A) → length new ≡ length v.items → (with_items v new).items ≡ new
items_are v new h = ap (λ n. take n (new ++ drop (length new) v.items)) (v.ok.0 ∙ sym h) ∙ take_front new (drop (length new) v.items)

rows_written : (v : Vec (Vec Frac)) (new : List (Vec Frac)) → length new ≡ length v.items → (with_items v new).items ≡ new
rows_written v new h =
    ap (λ n. take n (new ++ drop (length new) v.items)) (v.ok.0 ∙ sym h) ∙ take_front new (drop (length new) v.items)

pub pivoted_done : (t : Full) (n i j x y : ℕ) (old new : List (Vec Frac)) → n ≡ length t.nonbasic.items → old ≡ t.rows.items → pivoted_rows n i j (rows_of old) ≡ Ok (rows_of new) → length new ≡ length old →
    x ≡ get_or t.basic.items i 0 → y ≡ get_or t.nonbasic.items j 0 →
    pivoted (table_of t) i j ≡ Ok (record { nonbasic = set t.nonbasic.items j x; basic = set t.basic.items i y; rows = rows_of ((with_items t.rows new).items) })
unfolding pivoted
pivoted_done t n i j x y old new ne oe e le xe ye =
    let nb = t.nonbasic.items in
    let bs = t.basic.items in
    let made : ℕ → ℕ → List (List ℚ) → Result Table Place = λ u v rows. Ok (record { nonbasic = set nb j u; basic = set bs i v; rows = rows }) in
    ap (λ o. then_ok o (made (get_or bs i 0) (get_or nb j 0))) (ap (λ k. pivoted_rows k i j (rows_of t.rows.items)) (sym ne) ∙ ap (λ rs. pivoted_rows n i j (rows_of rs)) (sym oe) ∙ e)
    ∙ ap (λ u. made u (get_or nb j 0) (rows_of new)) (sym xe)
    ∙ ap (λ v. made x v (rows_of new)) (sym ye)
    ∙ ap (λ rs. made x y (rows_of rs)) (sym (rows_written t.rows new (le ∙ ap length oe)))

pub pivoted_fault : (t : Full) (n i j : ℕ) (old : List (Vec Frac)) (f : PivotFault) → n ≡ length t.nonbasic.items → old ≡ t.rows.items → IsFault f (pivoted_rows n i j (rows_of old)) → IsFault f (pivoted (table_of t) i j)
unfolding pivoted
pivoted_fault t n i j old (Past p) ne oe e =
    ap (λ o. then_ok o (λ rows. Ok (record { nonbasic = set t.nonbasic.items j (get_or t.basic.items i 0); basic = set t.basic.items i (get_or t.nonbasic.items j 0); rows = rows })))
    (ap (λ k. pivoted_rows k i j (rows_of t.rows.items)) (sym ne) ∙ ap (λ rs. pivoted_rows n i j (rows_of rs)) (sym oe) ∙ e)
pivoted_fault t n i j old NoMemory ne oe e = tt

pub at_place : (xs : List ℕ) (k d : ℕ) → k < length xs → get_or xs k d ≡ get_or xs k 0
at_place [] k d h = absurd (omega arith)
at_place (x ∷ xs) zero d h = refl
at_place (x ∷ xs) (suc k) d h = at_place xs k d (omega arith)

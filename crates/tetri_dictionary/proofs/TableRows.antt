-- The rows of a table under a pivot, one after the other.
use Rattle.std.proofs.Common.{◌≡◌, ℕ, ◌+◌, ◌<◌, ◌≤◌, refl, sym, ap, ◌∙◌, subst, arith, List, [], ◌∷◌, ◌++◌, length, get_or, set, take, drop, Result, Ok, Err, cond, eqb, Bool, true, false}
use Rattle.std.specs.Global.{Vec}
use Rattle.std.specs.Vec.{with_items}
use Rattle.tetri_dictionary.specs.declared.fault.PivotFault.{PivotFault}
use Rattle.tetri_dictionary.specs.declared.fault.PivotFault.TheVariants.{Past, NoMemory}
use Rattle.tetri_dictionary.specs.Faults.{IsFault}
use Prim.Native.Nat.{suc}
use Rattle.std.proofs.lemmas.Bool.{eqb-true, eq-eqb, false≢true}
use Rattle.std.proofs.lemmas.List.{length-map, length-set, map-set, set_comm, take_more, take_more_set, drop-set-lt, get_or-set_same, get_or-set_other, get_or-map}
use Rattle.tetri_algebra.specs.Rational.{ℚ}
use Rattle.tetri_num.specs.declared.fractions.Frac.{Frac}
use Rattle.tetri_num.specs.declared.places.Place.{Place}
use Rattle.tetri_dictionary.specs.Fractions.{values, rows_of, AreWide}
use Rattle.tetri_dictionary.specs.Steps.{each}
use Rattle.tetri_base.specs.ResultSteps.{then_ok}
use Rattle.tetri_dictionary.specs.Pivots.{solved_row, replaced_row, next_row, pivoted_rows}
use Rattle.tetri_dictionary.proofs.Forming.{onto, onto_nil, each_next, each_stop, each_done, take_all}

-- the row at a place, whatever stands past the end
pub row_of_table : (rows : List (Vec Frac)) (i : ℕ) (d : Vec Frac) → i < length rows → get_or (rows_of rows) i [] ≡ values (get_or rows i d).items
row_of_table rows i d h = get_or-map (λ (y : Vec Frac). values y.items) rows i d [] h

-- ---- one list with the solved row in its place
abbrev pub rest_of : (ℕ → List ℚ → Result (List ℚ) Place) → ℕ → List ℚ → List (List ℚ) → ℕ → Result (List (List ℚ)) Place
rest_of f i solved rows k = onto (take k (set rows i solved)) (each f k (drop k rows))

more_is : (k : ℕ) → suc k ≡ k + 1
more_is k = omega arith

pub rest_next : (f : ℕ → List ℚ → Result (List ℚ) Place) (i : ℕ) (solved : List ℚ) (rows : List (List ℚ)) (k : ℕ) (new : List ℚ) → k < length rows → (k ≡ i → ⊥) → f k (get_or rows k []) ≡ Ok new →
    rest_of f i solved (set rows k new) (k + 1) ≡ rest_of f i solved rows k
rest_next f i solved rows k new h d e =
    let l : k < k + 1 = omega arith in
    let m : k < length (set rows i solved) = subst (λ n. k < n) (sym (length-set rows i solved)) h in
    ap (λ zs. onto zs (each f (k + 1) (drop (k + 1) (set rows k new)))) (ap (take (k + 1)) (set_comm rows k i new solved d) ∙ take_more_set (set rows i solved) k new m)
    ∙ ap (λ zs. onto (take k (set rows i solved) ++ (new ∷ [])) (each f (k + 1) zs)) (drop-set-lt (k + 1) rows k new l)
    ∙ sym (each_next f k rows [] (take k (set rows i solved)) new h e)

pub rest_own : (f : ℕ → List ℚ → Result (List ℚ) Place) (i : ℕ) (solved : List ℚ) (rows : List (List ℚ)) (k : ℕ) → k < length rows → k ≡ i → f k (get_or rows k []) ≡ Ok solved →
    rest_of f i solved rows (k + 1) ≡ rest_of f i solved rows k
rest_own f i solved rows k h d e =
    let m : k < length (set rows i solved) = subst (λ n. k < n) (sym (length-set rows i solved)) h in
    let g : get_or (set rows i solved) k [] ≡ solved = ap (λ j. get_or (set rows j solved) k []) (sym d) ∙ get_or-set_same rows k solved [] h in
    ap (λ zs. onto zs (each f (k + 1) (drop (k + 1) rows))) (take_more (set rows i solved) k [] m ∙ ap (λ w. take k (set rows i solved) ++ (w ∷ [])) g)
    ∙ sym (each_next f k rows [] (take k (set rows i solved)) solved h e)

pub rest_stop : (f : ℕ → List ℚ → Result (List ℚ) Place) (i : ℕ) (solved : List ℚ) (rows : List (List ℚ)) (k : ℕ) (p : Place) → k < length rows → f k (get_or rows k []) ≡ Err p → rest_of f i solved rows k ≡ Err p
rest_stop f i solved rows k p h e = each_stop f k rows [] (take k (set rows i solved)) p h e

pub rest_done : (f : ℕ → List ℚ → Result (List ℚ) Place) (i : ℕ) (solved : List ℚ) (rows : List (List ℚ)) (k : ℕ) → length rows ≤ k → rest_of f i solved rows k ≡ Ok (set rows i solved)
rest_done f i solved rows k h =
    each_done f k rows (take k (set rows i solved)) h ∙ ap Ok (take_all k (set rows i solved) (subst (λ n. n ≤ k) (sym (length-set rows i solved)) h))

-- ---- the next row at a place
pub own_row : (n i j : ℕ) (solved : List ℚ) (k : ℕ) (row : List ℚ) → k ≡ i → next_row n i j solved k row ≡ Ok solved
own_row n i j solved k row e = ap (λ t. cond t (Ok solved) (replaced_row n k j solved row)) (eq-eqb k i e)

pub other_row : (n i j : ℕ) (solved : List ℚ) (k : ℕ) (row : List ℚ) → (k ≡ i → ⊥) → next_row n i j solved k row ≡ replaced_row n k j solved row
other_row n i j solved k row d = by_test (eqb k i) refl
  where
    by_test : (t : Bool) → eqb k i ≡ t → cond t (Ok solved) (replaced_row n k j solved row) ≡ replaced_row n k j solved row
    by_test true e = absurd (d (eqb-true k i e))
    by_test false e = refl

-- ---- the loop, over the code's rows
pub walk_next : (n i j : ℕ) (solved : List ℚ) (rows : List (Vec Frac)) (k : ℕ) (r s : Vec Frac) → k < length rows → (k ≡ i → ⊥) →
    replaced_row n k j solved (values (get_or rows k r).items) ≡ Ok (values s.items) →
    rest_of (next_row n i j solved) i solved (rows_of (set rows k s)) (k + 1) ≡ rest_of (next_row n i j solved) i solved (rows_of rows) k
walk_next n i j solved rows k r s h d e =
    let f = next_row n i j solved in
    let g : (y : Vec Frac) → List ℚ = λ (y : Vec Frac). values y.items in
    ap (λ zs. rest_of f i solved zs (k + 1)) (map-set g rows k s)
    ∙ rest_next f i solved (rows_of rows) k (values s.items) (subst (λ l. k < l) (sym (length-map rows g)) h) d
    (other_row n i j solved k (get_or (rows_of rows) k []) d ∙ ap (replaced_row n k j solved) (row_of_table rows k r h) ∙ e)

pub walk_own : (n i j : ℕ) (solved : List ℚ) (rows : List (Vec Frac)) (k : ℕ) → k < length rows → k ≡ i →
    rest_of (next_row n i j solved) i solved (rows_of rows) (k + 1) ≡ rest_of (next_row n i j solved) i solved (rows_of rows) k
walk_own n i j solved rows k h d =
    rest_own (next_row n i j solved) i solved (rows_of rows) k (subst (λ l. k < l) (sym (length-map rows (λ (y : Vec Frac). values y.items))) h) d (own_row n i j solved k (get_or (rows_of rows) k []) d)

pub walk_stop : (n i j : ℕ) (solved : List ℚ) (rows : List (Vec Frac)) (k : ℕ) (r : Vec Frac) (old : List Frac) (p : Place) → k < length rows → (k ≡ i → ⊥) → old ≡ (get_or rows k r).items →
    replaced_row n k j solved (values old) ≡ Err p → rest_of (next_row n i j solved) i solved (rows_of rows) k ≡ Err p
walk_stop n i j solved rows k r old p h d oe e =
    rest_stop (next_row n i j solved) i solved (rows_of rows) k p (subst (λ l. k < l) (sym (length-map rows (λ (y : Vec Frac). values y.items))) h)
    (other_row n i j solved k (get_or (rows_of rows) k []) d ∙ ap (replaced_row n k j solved) (row_of_table rows k r h) ∙ ap (λ xs. replaced_row n k j solved (values xs)) (sym oe) ∙ e)

pub walk_done : (n i j : ℕ) (solved : List ℚ) (rows : List (Vec Frac)) (k : ℕ) → length rows ≤ k → rest_of (next_row n i j solved) i solved (rows_of rows) k ≡ Ok (set (rows_of rows) i solved)
walk_done n i j solved rows k h = rest_done (next_row n i j solved) i solved (rows_of rows) k (subst (λ l. l ≤ k) (sym (length-map rows (λ (y : Vec Frac). values y.items))) h)

pub walk_init : (n i j : ℕ) (solved : List ℚ) (rows : List (Vec Frac)) → rest_of (next_row n i j solved) i solved (rows_of rows) 0 ≡ each (next_row n i j solved) 0 (rows_of rows)
walk_init n i j solved rows = onto_nil (each (next_row n i j solved) 0 (rows_of rows))

-- ---- the whole
pub pivoted_is : (n i j : ℕ) (rows : List (List ℚ)) (solved : List ℚ) → solved_row n i j (get_or rows i []) ≡ Ok solved → pivoted_rows n i j rows ≡ each (next_row n i j solved) 0 rows
unfolding pivoted_rows
pivoted_is n i j rows solved e = ap (λ (o : Result (List ℚ) Place). then_ok o (λ s. each (next_row n i j s) 0 rows)) e

pub pivoted_stop : (n i j : ℕ) (rows : List (List ℚ)) (p : Place) → solved_row n i j (get_or rows i []) ≡ Err p → pivoted_rows n i j rows ≡ Err p
unfolding pivoted_rows
pivoted_stop n i j rows p e = ap (λ (o : Result (List ℚ) Place). then_ok o (λ s. each (next_row n i j s) 0 rows)) e

-- ---- widths
pub wide_set : (n : ℕ) (rows : List (Vec Frac)) (k : ℕ) (s : Vec Frac) (new : List (Vec Frac)) → AreWide n rows → length s.items ≡ n + 1 → new ≡ set rows k s → AreWide n new
wide_set n rows k s new w e f = subst (λ (ys : List (Vec Frac)). AreWide n ys) (sym f) (All-set w e)
  where
    All-set : AreWide n rows → length s.items ≡ n + 1 → AreWide n (set rows k s)
    All-set w e i d h = by_place (eqb i k) refl
      where
        by_place : (t : Bool) → eqb i k ≡ t → length (get_or (set rows k s) i d).items ≡ n + 1
        by_place true g =
            let q : i ≡ k = eqb-true i k g in
            let l : i < length rows = subst (λ m. i < m) (length-set rows k s) h in
            ap (λ (y : Vec Frac). length y.items) (ap (λ j. get_or (set rows j s) i d) (sym q) ∙ get_or-set_same rows i s d l) ∙ e
        by_place false g =
            let l : i < length rows = subst (λ m. i < m) (length-set rows k s) h in
            ap (λ (y : Vec Frac). length y.items) (get_or-set_other rows k i s d (λ q. false≢true (sym g ∙ eq-eqb i k q))) ∙ w i d l

-- a row that is written as a whole
pub take_front : {A : Type 0} → (ws zs : List A) → take (length ws) (ws ++ zs) ≡ ws
take_front [] zs = refl
take_front (w ∷ ws) zs = ap (λ us. w ∷ us) (take_front ws zs)

pub items_written : (v : Vec Frac) (ws : List Frac) → length ws ≡ length v.items → (with_items v ws).items ≡ ws
items_written v ws h =
    let e : v.len ≡ length ws = v.ok.0 ∙ sym h in
    ap (λ n. take n (ws ++ drop (length ws) v.items)) e ∙ take_front ws (drop (length ws) v.items)

-- the loop's step, where the row is written through a slice
pub walk_write : (n i j : ℕ) (solved : List ℚ) (rows after : List (Vec Frac)) (k : ℕ) (r : Vec Frac) (old new : List Frac) → k < length rows → (k ≡ i → ⊥) → old ≡ (get_or rows k r).items → length new ≡ length old →
    after ≡ set rows k (with_items (get_or rows k r) new) → replaced_row n k j solved (values old) ≡ Ok (values new) →
    rest_of (next_row n i j solved) i solved (rows_of after) (k + 1) ≡ rest_of (next_row n i j solved) i solved (rows_of rows) k
walk_write n i j solved rows after k r old new h d oe le ae e =
    let x = get_or rows k r in
    let l : length new ≡ length x.items = le ∙ ap length oe in
    ap (λ (ys : List (Vec Frac)). rest_of (next_row n i j solved) i solved (rows_of ys) (k + 1)) ae
    ∙ walk_next n i j solved rows k r (with_items x new) h d
    (ap (λ xs. replaced_row n k j solved (values xs)) (sym oe) ∙ e ∙ ap (λ xs. Ok (values xs)) (sym (items_written x new l)))

pub wide_write : (n : ℕ) (rows after : List (Vec Frac)) (k : ℕ) (r : Vec Frac) (old new : List Frac) → AreWide n rows → k < length rows → old ≡ (get_or rows k r).items → length new ≡ length old →
    after ≡ set rows k (with_items (get_or rows k r) new) → AreWide n after
wide_write n rows after k r old new w h oe le ae =
    let x = get_or rows k r in
    let l : length new ≡ length x.items = le ∙ ap length oe in
    wide_set n rows k (with_items x new) after w (ap length (items_written x new l) ∙ l ∙ w k r h) ae

-- ---- the whole, over the code's rows
pub leaving_row : (n i j : ℕ) (rows : List (Vec Frac)) (r : Vec Frac) (row : List Frac) (o : Result (List ℚ) Place) → i < length rows → row ≡ (get_or rows i r).items → solved_row n i j (values row) ≡ o →
    solved_row n i j (get_or (rows_of rows) i []) ≡ o
leaving_row n i j rows r row o h oe e = ap (solved_row n i j) (row_of_table rows i r h ∙ ap values (sym oe)) ∙ e

pub pivoted_fault : (n i j : ℕ) (rows : List (Vec Frac)) (r : Vec Frac) (row : List Frac) (f : PivotFault) → i < length rows → row ≡ (get_or rows i r).items → IsFault f (solved_row n i j (values row)) → IsFault f (pivoted_rows n i j (rows_of rows))
pivoted_fault n i j rows r row (Past p) h oe e = pivoted_stop n i j (rows_of rows) p (leaving_row n i j rows r row (Err p) h oe e)
pivoted_fault n i j rows r row NoMemory h oe e = tt

pub pivoted_done : (n i j : ℕ) (rows new : List (Vec Frac)) (r solved : Vec Frac) (row : List Frac) → i < length rows → row ≡ (get_or rows i r).items → solved_row n i j (values row) ≡ Ok (values solved.items) →
    each (next_row n i j (values solved.items)) 0 (rows_of rows) ≡ Ok (set (rows_of new) i (values solved.items)) → pivoted_rows n i j (rows_of rows) ≡ Ok (rows_of (set new i solved))
pivoted_done n i j rows new r solved row h oe e f =
    pivoted_is n i j (rows_of rows) (values solved.items) (leaving_row n i j rows r row (Ok (values solved.items)) h oe e) ∙ f
    ∙ ap Ok (sym (map-set (λ (y : Vec Frac). values y.items) new i solved))

pub pivoted_past : (n i j : ℕ) (rows : List (Vec Frac)) (r solved : Vec Frac) (row read : List Frac) (p : Place) → i < length rows → row ≡ (get_or rows i r).items → solved_row n i j (values row) ≡ Ok (values solved.items) →
    read ≡ solved.items → each (next_row n i j (values read)) 0 (rows_of rows) ≡ Err p → pivoted_rows n i j (rows_of rows) ≡ Err p
pivoted_past n i j rows r solved row read p h oe e re f =
    pivoted_is n i j (rows_of rows) (values solved.items) (leaving_row n i j rows r row (Ok (values solved.items)) h oe e)
    ∙ ap (λ xs. each (next_row n i j (values xs)) 0 (rows_of rows)) (sym re) ∙ f

pub wide_same : (n : ℕ) (rows after : List (Vec Frac)) → AreWide n rows → after ≡ rows → AreWide n after
wide_same n rows after w e = subst (λ (ys : List (Vec Frac)). AreWide n ys) (sym e) w

-- the solved row, as the loop read it
pub through_copy : (n i j : ℕ) (rows : List (Vec Frac)) (own read : List Frac) (new : List (Vec Frac)) → read ≡ own →
    each (next_row n i j (values read)) 0 (rows_of rows) ≡ Ok (set (rows_of new) i (values read)) →
    each (next_row n i j (values own)) 0 (rows_of rows) ≡ Ok (set (rows_of new) i (values own))
through_copy n i j rows own read new e h = subst (λ (xs : List Frac). each (next_row n i j (values xs)) 0 (rows_of rows) ≡ Ok (set (rows_of new) i (values xs))) e h

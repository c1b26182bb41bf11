-- The rows of a dictionary under a pivot, one after the other, where they are kept row by row.
use Rattle.std.proofs.Common.{◌≡◌, ℕ, ◌+◌, ◌<◌, ◌≤◌, sym, ap, ◌∙◌, subst, List, [], length, get_or, set, Result, Ok}
use Rattle.std.proofs.lemmas.List.{length-map, map-set, get_or-map, set-get_or, get_or_default}
use Rattle.tetri_algebra.specs.Rational.{ℚ}
use Rattle.tetri_num.specs.declared.places.Place.{Place}
use Rattle.tetri_dictionary.specs.declared.fault.PivotFault.{PivotFault}
use Rattle.tetri_dictionary.specs.declared.fault.PivotFault.TheVariants.{Past, NoMemory}
use Rattle.tetri_dictionary.specs.declared.mixed.MixedRow.{MixedRow}
use Rattle.tetri_dictionary.specs.Faults.{IsFault}
use Rattle.tetri_dictionary.specs.Mixed.{mixed_row, mixed_rows, IsMixedRow, AreMixedRows}
use Rattle.tetri_dictionary.specs.Pivots.{solved_row, replaced_row, next_row, pivoted_rows}
use Rattle.tetri_dictionary.specs.Steps.{each}
use Rattle.tetri_dictionary.proofs.TableRows.{rest_of, rest_next, rest_own, rest_stop, rest_done, own_row, other_row, pivoted_is, pivoted_stop}

-- ---- one row
pub mixed_at : (rows : List MixedRow) (i : ℕ) (d : MixedRow) → i < length rows → get_or (mixed_rows rows) i [] ≡ mixed_row (get_or rows i d)
mixed_at rows i d h = get_or-map mixed_row rows i d [] h

-- what the code reads at a place
pub mixed_read : (rows : List MixedRow) (i : ℕ) (r : MixedRow) → i < length rows → r ≡ get_or rows i r → get_or (mixed_rows rows) i [] ≡ mixed_row r
mixed_read rows i r h e = mixed_at rows i r h ∙ ap mixed_row (sym e)

pub mixed_sound : (n : ℕ) (rows : List MixedRow) (i : ℕ) (r : MixedRow) → AreMixedRows n rows → i < length rows → r ≡ get_or rows i r → IsMixedRow n r
mixed_sound n rows i r w h e = subst (λ (y : MixedRow). IsMixedRow n y) (sym e) (w i r h)

pub read_stays : (rows : List MixedRow) (k : ℕ) (r : MixedRow) → r ≡ get_or rows k r → rows ≡ set rows k r
read_stays rows k r e = sym (ap (λ (y : MixedRow). set rows k y) e ∙ set-get_or rows k r)

-- ---- the loop
pub mixed_next : (n i j : ℕ) (solved : List ℚ) (rows after : List MixedRow) (k : ℕ) → k < length rows → (k ≡ i → ⊥) → (row : MixedRow) → after ≡ set rows k row → replaced_row n k j solved (get_or (mixed_rows rows) k []) ≡ Ok (mixed_row row) →
    rest_of (next_row n i j solved) i solved (mixed_rows after) (k + 1) ≡ rest_of (next_row n i j solved) i solved (mixed_rows rows) k
mixed_next n i j solved rows after k h d row ae e =
    let f = next_row n i j solved in
    ap (λ (ys : List MixedRow). rest_of f i solved (mixed_rows ys) (k + 1)) ae
    ∙ ap (λ zs. rest_of f i solved zs (k + 1)) (map-set mixed_row rows k row)
    ∙ rest_next f i solved (mixed_rows rows) k (mixed_row row) (subst (λ l. k < l) (sym (length-map rows mixed_row)) h) d
    (other_row n i j solved k (get_or (mixed_rows rows) k []) d ∙ e)

pub mixed_own : (n i j : ℕ) (solved : List ℚ) (rows : List MixedRow) (k : ℕ) → k < length rows → k ≡ i → rest_of (next_row n i j solved) i solved (mixed_rows rows) (k + 1) ≡ rest_of (next_row n i j solved) i solved (mixed_rows rows) k
mixed_own n i j solved rows k h d = rest_own (next_row n i j solved) i solved (mixed_rows rows) k (subst (λ l. k < l) (sym (length-map rows mixed_row)) h) d (own_row n i j solved k (get_or (mixed_rows rows) k []) d)

pub mixed_stop : (n i j : ℕ) (solved : List ℚ) (rows : List MixedRow) (k : ℕ) (f : PivotFault) → k < length rows → (k ≡ i → ⊥) → IsFault f (replaced_row n k j solved (get_or (mixed_rows rows) k [])) → IsFault f (rest_of (next_row n i j solved) i solved (mixed_rows rows) k)
mixed_stop n i j solved rows k NoMemory h d e = tt
mixed_stop n i j solved rows k (Past p) h d e =
    rest_stop (next_row n i j solved) i solved (mixed_rows rows) k p (subst (λ l. k < l) (sym (length-map rows mixed_row)) h)
    (other_row n i j solved k (get_or (mixed_rows rows) k []) d ∙ e)

pub mixed_done : (n i j : ℕ) (solved : List ℚ) (rows : List MixedRow) (k : ℕ) → length rows ≤ k → rest_of (next_row n i j solved) i solved (mixed_rows rows) k ≡ Ok (set (mixed_rows rows) i solved)
mixed_done n i j solved rows k h = rest_done (next_row n i j solved) i solved (mixed_rows rows) k (subst (λ l. l ≤ k) (sym (length-map rows mixed_row)) h)

pub fault_along : {A : Type 0} → (f : PivotFault) (s t : Result A Place) → s ≡ t → IsFault f s → IsFault f t
fault_along f s t e h = subst (λ o. IsFault f o) e h

-- ---- the whole
pub mixed_unsolved : (n i j : ℕ) (rows : List MixedRow) (r : MixedRow) (f : PivotFault) → i < length rows → r ≡ get_or rows i r → IsFault f (solved_row n i j (mixed_row r)) → IsFault f (pivoted_rows n i j (mixed_rows rows))
mixed_unsolved n i j rows r NoMemory h g e = tt
mixed_unsolved n i j rows r (Past p) h g e = pivoted_stop n i j (mixed_rows rows) p (ap (solved_row n i j) (mixed_read rows i r h g) ∙ e)

pub mixed_fault : (n i j : ℕ) (rows : List MixedRow) (r solved : MixedRow) (f : PivotFault) → i < length rows → r ≡ get_or rows i r → solved_row n i j (mixed_row r) ≡ Ok (mixed_row solved) → IsFault f (each (next_row n i j (mixed_row solved)) 0 (mixed_rows rows)) →
    IsFault f (pivoted_rows n i j (mixed_rows rows))
mixed_fault n i j rows r solved NoMemory h g e w = tt
mixed_fault n i j rows r solved (Past p) h g e w = pivoted_is n i j (mixed_rows rows) (mixed_row solved) (ap (solved_row n i j) (mixed_read rows i r h g) ∙ e) ∙ w

pub mixed_pivoted : (n i j : ℕ) (rows new : List MixedRow) (r solved : MixedRow) → i < length rows → r ≡ get_or rows i r → solved_row n i j (mixed_row r) ≡ Ok (mixed_row solved) → each (next_row n i j (mixed_row solved)) 0 (mixed_rows rows) ≡ Ok (set (mixed_rows new) i (mixed_row solved)) →
    pivoted_rows n i j (mixed_rows rows) ≡ Ok (mixed_rows (set new i solved))
mixed_pivoted n i j rows new r solved h g e w =
    pivoted_is n i j (mixed_rows rows) (mixed_row solved) (ap (solved_row n i j) (mixed_read rows i r h g) ∙ e) ∙ w ∙ ap Ok (sym (map-set mixed_row new i solved))

-- the row at a place, whatever stands past the end
pub own_read : (rows : List MixedRow) (i : ℕ) (d : MixedRow) → i < length rows → get_or rows i d ≡ get_or rows i (get_or rows i d)
own_read rows i d h = get_or_default rows i d (get_or rows i d) h

-- Which rows hold a variable after a pivot.
use Rattle.std.proofs.Common.{◌≡◌, ℕ, ◌+◌, ◌-◌, ◌<◌, ◌≤◌, refl, sym, ap, ◌∙◌, subst, arith, List, [], ◌∷◌, length, get_or, set, map, Result, Ok, ◌⊎◌, inl, inr, ⊎_elim}
use Prim.Native.Nat.{zero, suc}
use Rattle.std.proofs.lemmas.Bool.{cases_eq, cases_lt}
use Rattle.std.proofs.lemmas.List.{get_or-set_other, get_or_past, map-set, length-map}
use lib.IntN.{pos, negsuc}
use Rattle.tetri_algebra.specs.Rational.{ℚ, whole_ℚ}
use Rattle.tetri_algebra.specs.RationalReciprocal.{recip_ℚ}
use Rattle.tetri_algebra.specs.RationalRing.{ℚ_ring, zero_ℚ, ◌+ℚ◌, ◌*ℚ◌, zero-+ℚ, zero-*ℚ, num-whole_ℚ}
use Rattle.tetri_algebra.specs.RingSolver.{var, nil, minus, ring, ◌⊗◌}
use Rattle.tetri_num.specs.declared.places.Place.{Place}
use Rattle.tetri_dictionary.specs.declared.mixed.MixedRow.{MixedRow}
use Rattle.tetri_dictionary.specs.Mixed.{mixed_row, mixed_rows, IsMixedRow, AreMixedRows, IsReplacedAt}
use Rattle.tetri_dictionary.specs.Holders.{bit, number_in, IsHolder}
use Rattle.tetri_dictionary.specs.Pivots.{solved_row, replaced_row, next_row, pivoted_rows}
use Rattle.tetri_dictionary.specs.Steps.{each}
use Rattle.tetri_dictionary.proofs.Dots.{negated}
use Rattle.tetri_dictionary.proofs.EachPlace.{each_get, each_length}
use Rattle.tetri_dictionary.proofs.LeastRatio.{get-plus_scaled}
use Rattle.tetri_dictionary.proofs.MixedPivots.{mixed_done, mixed_next, mixed_own, mixed_read, mixed_sound, read_stays}
use Rattle.tetri_dictionary.proofs.MixedRows.{mixed_stays}
use Rattle.tetri_dictionary.proofs.PivotKeeps.{then_ok_pair, solved_is, replaced_is}
use Rattle.tetri_dictionary.proofs.TableRows.{own_row, other_row, rest_of}

-- ---- a number that is 0
times_zero : (f : ℚ) → f *ℚ zero_ℚ ≡ zero_ℚ
times_zero f = ring ℚ_ring (f ∷ []) (var 0 ⊗ nil) nil refl

cleared : (us : List ℚ) (k : ℕ) → get_or (set us k zero_ℚ) k zero_ℚ ≡ zero_ℚ
cleared [] k = refl
cleared (u ∷ us) zero = refl
cleared (u ∷ us) (suc k) = cleared us k

-- 0 stays where another place is set, and where 0 is written
set_zero : (us : List ℚ) (j k : ℕ) → get_or us k zero_ℚ ≡ zero_ℚ → get_or (set us j zero_ℚ) k zero_ℚ ≡ zero_ℚ
set_zero us j k e =
    ⊎_elim (λ s. ap (λ p. get_or (set us j zero_ℚ) p zero_ℚ) s ∙ cleared us j) (λ d. get_or-set_other us j k zero_ℚ zero_ℚ d ∙ e) (cases_eq k j)

negated_zero : (c : ℚ) (us : List ℚ) (k : ℕ) → get_or us k zero_ℚ ≡ zero_ℚ → get_or (map (negated ℚ_ring c) us) k zero_ℚ ≡ zero_ℚ
negated_zero c [] k e = refl
negated_zero c (u ∷ us) zero e = ap (negated ℚ_ring c) e ∙ ring ℚ_ring (c ∷ []) (minus nil ⊗ var 0) nil refl
negated_zero c (u ∷ us) (suc k) e = negated_zero c us k e

-- a number of a row that has 0 there, and does not hold the variable or has the solved row 0 there
replaced_zero : (n i j p : ℕ) (solved row out : List ℚ) → replaced_row n i j solved row ≡ Ok out → get_or row (suc p) zero_ℚ ≡ zero_ℚ → (get_or solved (suc p) zero_ℚ ≡ zero_ℚ) ⊎ (get_or row (suc j) zero_ℚ ≡ zero_ℚ) → get_or out (suc p) zero_ℚ ≡ zero_ℚ
replaced_zero n i j p solved row out e z h =
    let f = get_or row (suc j) zero_ℚ in
    let x = get_or solved (suc p) zero_ℚ in
    ap (λ us. get_or us (suc p) zero_ℚ) (replaced_is n i j solved row out e)
    ∙ get-plus_scaled f (set row (suc j) zero_ℚ) solved (suc p)
    ∙ ap (λ w. w +ℚ (f *ℚ x)) (set_zero row (suc j) (suc p) z)
    ∙ zero-+ℚ (f *ℚ x)
    ∙ ⊎_elim (λ b. ap (λ w. f *ℚ w) b ∙ times_zero f) (λ a. ap (λ w. w *ℚ x) a ∙ zero-*ℚ x) h

solved_zero : (n i j p : ℕ) (row solved : List ℚ) → solved_row n i j row ≡ Ok solved → (p ≡ j → ⊥) → get_or row (suc p) zero_ℚ ≡ zero_ℚ → get_or solved (suc p) zero_ℚ ≡ zero_ℚ
solved_zero n i j p row solved e d z =
    ap (λ us. get_or us (suc p) zero_ℚ) (solved_is n i j row solved e)
    ∙ negated_zero (recip_ℚ (get_or row (suc j) zero_ℚ)) (set row (suc j) (whole_ℚ (negsuc 0))) (suc p) (get_or-set_other row (suc j) (suc p) (whole_ℚ (negsuc 0)) zero_ℚ (λ s. d (lower s)) ∙ z)
  where
    lower : suc p ≡ suc j → p ≡ j
    lower s = omega arith

-- ---- the rows of a pivot
same : {A : Type 0} → (o : Result A Place) (x y : A) → o ≡ Ok x → o ≡ Ok y → x ≡ y
same o x y e f = cc

pub parts : (n i j : ℕ) (rows new : List (List ℚ)) → pivoted_rows n i j rows ≡ Ok new → (s : List ℚ) × ((solved_row n i j (get_or rows i []) ≡ Ok s) × (each (next_row n i j s) 0 rows ≡ Ok new))
unfolding pivoted_rows
parts n i j rows new e = then_ok_pair (solved_row n i j (get_or rows i [])) _ new e

pub at_row : (n i j : ℕ) (s : List ℚ) (rows new : List (List ℚ)) (q : ℕ) → each (next_row n i j s) 0 rows ≡ Ok new → q < length rows → next_row n i j s q (get_or rows q []) ≡ Ok (get_or new q [])
at_row n i j s rows new q e l =
    let z : 0 + q ≡ q = omega arith in
    ap (λ k. next_row n i j s k (get_or rows q [])) (sym z) ∙ each_get (next_row n i j s) 0 rows new q [] [] e l

pub own_after : (n i j : ℕ) (s : List ℚ) (rows new : List (List ℚ)) → each (next_row n i j s) 0 rows ≡ Ok new → i < length rows → s ≡ get_or new i []
own_after n i j s rows new e l = same (next_row n i j s i (get_or rows i [])) s (get_or new i []) (own_row n i j s i (get_or rows i []) refl) (at_row n i j s rows new i e l)

past_end : (n i j : ℕ) (s : List ℚ) (rows new : List (List ℚ)) (q p : ℕ) → each (next_row n i j s) 0 rows ≡ Ok new → length rows ≤ q → number_in new q p ≡ zero_ℚ
past_end n i j s rows new q p e l = ap (λ us. get_or us (suc p) zero_ℚ) (get_or_past new q [] (subst (λ m. m ≤ q) (sym (each_length (next_row n i j s) 0 rows new e)) l))

-- ---- a column after a pivot
-- that of the pivot itself
pub held_own : (n i j : ℕ) (rows new : List (List ℚ)) (own : List ℕ) → i < length rows → pivoted_rows n i j rows ≡ Ok new → ((get_or (get_or rows i []) (suc j) zero_ℚ).num ≡ pos 0 → ⊥) → IsHolder own rows j → IsHolder own new j
unfolding whole_ℚ
held_own n i j rows new own l e p h q b =
    let m = parts n i j rows new e in
    ⊎_elim (λ g. inside m g) (λ g. past_end n i j m.0 rows new q j m.1.1 g) (cases_lt q (length rows))
  where
    not_own : q ≡ i → ⊥
    not_own s = p (ap (λ k. (number_in rows k j).num) (sym s) ∙ ap (λ (z : ℚ). z.num) (h q b))

    inside : (s : List ℚ) × ((solved_row n i j (get_or rows i []) ≡ Ok s) × (each (next_row n i j s) 0 rows ≡ Ok new)) → q < length rows → number_in new q j ≡ zero_ℚ
    inside m g = replaced_zero n q j j m.0 (get_or rows q []) (get_or new q []) (sym (other_row n i j m.0 q (get_or rows q []) not_own) ∙ at_row n i j m.0 rows new q m.1.1 g) (h q b) (inr (h q b))

-- another one, of whose bits none is missing that the pivot's column has, if the solved row is not 0 there
pub held_other : (n i j p : ℕ) (rows new : List (List ℚ)) (own after : List ℕ) → i < length rows → pivoted_rows n i j rows ≡ Ok new → (p ≡ j → ⊥) → IsHolder own rows j → IsHolder after rows p →
    ((q : ℕ) → bit after q ≡ 0 → (number_in new i p ≡ zero_ℚ) ⊎ (bit own q ≡ 0)) → IsHolder after new p
held_other n i j p rows new own after l e d h g w q b =
    let m = parts n i j rows new e in
    ⊎_elim (λ t. ⊎_elim (λ s. at_own m s) (λ o. elsewhere m t o) (cases_eq q i)) (λ t. past_end n i j m.0 rows new q p m.1.1 t) (cases_lt q (length rows))
  where
    at_own : (s : List ℚ) × ((solved_row n i j (get_or rows i []) ≡ Ok s) × (each (next_row n i j s) 0 rows ≡ Ok new)) → q ≡ i → number_in new q p ≡ zero_ℚ
    at_own m s =
        ap (λ k. number_in new k p) s ∙ ap (λ us. get_or us (suc p) zero_ℚ) (sym (own_after n i j m.0 rows new m.1.1 l))
        ∙ solved_zero n i j p (get_or rows i []) m.0 m.1.0 d (ap (λ k. number_in rows k p) (sym s) ∙ g q b)

    elsewhere : (s : List ℚ) × ((solved_row n i j (get_or rows i []) ≡ Ok s) × (each (next_row n i j s) 0 rows ≡ Ok new)) → q < length rows → (q ≡ i → ⊥) → number_in new q p ≡ zero_ℚ
    elsewhere m t o =
        replaced_zero n q j p m.0 (get_or rows q []) (get_or new q []) (sym (other_row n i j m.0 q (get_or rows q []) o) ∙ at_row n i j m.0 rows new q m.1.1 t) (g q b)
        (⊎_elim (λ z. inl (ap (λ us. get_or us (suc p) zero_ℚ) (own_after n i j m.0 rows new m.1.1 l) ∙ z)) (λ z. inr (h q z)) (w q b))

-- ---- the rows that the pivot has not come to yet
pub still_there : (rows first after : List MixedRow) (k : ℕ) (row : MixedRow) → after ≡ set rows k row → ((q : ℕ) → k ≤ q → get_or (mixed_rows rows) q [] ≡ get_or (mixed_rows first) q []) →
    (q : ℕ) → k + 1 ≤ q → get_or (mixed_rows after) q [] ≡ get_or (mixed_rows first) q []
still_there rows first after k row ae h q l =
    ap (λ (us : List MixedRow). get_or (mixed_rows us) q []) ae ∙ ap (λ us. get_or us q []) (map-set mixed_row rows k row)
    ∙ get_or-set_other (mixed_rows rows) k q (mixed_row row) [] (later q l) ∙ h q (omega arith)
  where
    later : (q : ℕ) → k + 1 ≤ q → q ≡ k → ⊥
    later q l e = omega arith

pub same_there : (rows first after : List MixedRow) (k : ℕ) → after ≡ rows → ((q : ℕ) → k ≤ q → get_or (mixed_rows rows) q [] ≡ get_or (mixed_rows first) q []) →
    (q : ℕ) → k + 1 ≤ q → get_or (mixed_rows after) q [] ≡ get_or (mixed_rows first) q []
same_there rows first after k ae h q l = ap (λ (us : List MixedRow). get_or (mixed_rows us) q []) ae ∙ h q (omega arith)

-- a number that is 0 there was so in the first rows
pub there_zero : (rows first : List MixedRow) (k j : ℕ) → get_or (mixed_rows rows) k [] ≡ get_or (mixed_rows first) k [] → number_in (mixed_rows rows) k j ≡ zero_ℚ → number_in (mixed_rows first) k j ≡ zero_ℚ
there_zero rows first k j e z = ap (λ us. get_or us (suc j) zero_ℚ) (sym e) ∙ z

-- from a later place on as well
pub later_there : (rows first : List MixedRow) (from k : ℕ) → from ≤ k → ((q : ℕ) → from ≤ q → get_or (mixed_rows rows) q [] ≡ get_or (mixed_rows first) q []) → (q : ℕ) → k ≤ q → get_or (mixed_rows rows) q [] ≡ get_or (mixed_rows first) q []
later_there rows first from k m h q l = h q (omega (arith, m, l))

-- ---- what the code reads of a row
pub read_zero : (rows : List MixedRow) (k j : ℕ) (r : MixedRow) → k < length rows → r ≡ get_or rows k r → get_or (mixed_row r) (j + 1) zero_ℚ ≡ zero_ℚ → number_in (mixed_rows rows) k j ≡ zero_ℚ
read_zero rows k j r h e z =
    let s : j + 1 ≡ suc j = omega arith in
    ap (λ us. get_or us (suc j) zero_ℚ) (mixed_read rows k r h e) ∙ ap (λ p. get_or (mixed_row r) p zero_ℚ) (sym s) ∙ z

-- a bit that is cleared where the row has 0
pub narrowed : (ws after : List ℕ) (rows : List (List ℚ)) (j k : ℕ) → number_in rows k j ≡ zero_ℚ → ((q : ℕ) → (q ≡ k → ⊥) → bit after q ≡ 0 → bit ws q ≡ 0) → IsHolder ws rows j → IsHolder after rows j
narrowed ws after rows j k z h g q b = ⊎_elim (λ s. ap (λ p. number_in rows p j) s ∙ z) (λ d. g q (h q d b)) (cases_eq q k)

pub past_rows : (rows : List MixedRow) (k j : ℕ) → length rows ≤ k → number_in (mixed_rows rows) k j ≡ zero_ℚ
past_rows rows k j l = ap (λ us. get_or us (suc j) zero_ℚ) (get_or_past (mixed_rows rows) k [] (subst (λ m. m ≤ k) (sym (length-map rows mixed_row)) l))

pub behind : (j : ℕ) → j + 1 ≡ suc j
behind j = omega arith

-- a row that does not hold the variable
pub some_row : (rows : List MixedRow) (k : ℕ) → k < length rows → (r : MixedRow) × (r ≡ get_or rows k r)
some_row [] k l = absurd (omega arith)
some_row (r ∷ rows) zero l = (r, refl)
some_row (r ∷ rows) (suc k) l = some_row rows k (omega arith)

pub unheld : (n k j : ℕ) (rows : List MixedRow) (s : MixedRow) → AreMixedRows n rows → k < length rows → IsMixedRow n s → number_in (mixed_rows rows) k j ≡ zero_ℚ → IsReplacedAt n k j (mixed_row s) rows rows
unheld n k j rows s w l hs z =
    let m = some_row rows k l in
    let r = m.0 in
    let g = mixed_read rows k r l m.1 in
    record {
      row = r;
      rows = read_stays rows k r m.1;
      formed =
          ap (replaced_row n k j (mixed_row s)) g
          ∙ mixed_stays n k j r s (mixed_sound n rows k r w l m.1) hs (ap (λ i. get_or (mixed_row r) i zero_ℚ) (behind j) ∙ sym (ap (λ us. get_or us (suc j) zero_ℚ) g) ∙ z);
    }

-- ---- rows that are passed over
pub pass : (n i j : ℕ) (s : MixedRow) (rows : List MixedRow) (k : ℕ) → AreMixedRows n rows → IsMixedRow n s → number_in (mixed_rows rows) k j ≡ zero_ℚ →
    rest_of (next_row n i j (mixed_row s)) i (mixed_row s) (mixed_rows rows) (k + 1) ≡ rest_of (next_row n i j (mixed_row s)) i (mixed_row s) (mixed_rows rows) k
pass n i j s rows k w hs z = ⊎_elim (λ l. inside l) (λ l. past l) (cases_lt k (length rows))
  where
    inside : k < length rows → rest_of (next_row n i j (mixed_row s)) i (mixed_row s) (mixed_rows rows) (k + 1) ≡ rest_of (next_row n i j (mixed_row s)) i (mixed_row s) (mixed_rows rows) k
    inside l =
        let r = unheld n k j rows s w l hs z in
        ⊎_elim (λ e. mixed_own n i j (mixed_row s) rows k l e) (λ d. mixed_next n i j (mixed_row s) rows rows k l d r.row r.rows r.formed) (cases_eq k i)

    past : length rows ≤ k → rest_of (next_row n i j (mixed_row s)) i (mixed_row s) (mixed_rows rows) (k + 1) ≡ rest_of (next_row n i j (mixed_row s)) i (mixed_row s) (mixed_rows rows) k
    past l = mixed_done n i j (mixed_row s) rows (k + 1) (omega (arith, l)) ∙ sym (mixed_done n i j (mixed_row s) rows k l)

pass_more : (n i j : ℕ) (s : MixedRow) (rows : List MixedRow) (k m : ℕ) → AreMixedRows n rows → IsMixedRow n s → ((q : ℕ) → k ≤ q → q < k + m → number_in (mixed_rows rows) q j ≡ zero_ℚ) →
    rest_of (next_row n i j (mixed_row s)) i (mixed_row s) (mixed_rows rows) (k + m) ≡ rest_of (next_row n i j (mixed_row s)) i (mixed_row s) (mixed_rows rows) k
pass_more n i j s rows k zero w hs z = let e : k + 0 ≡ k = omega arith in ap (rest_of (next_row n i j (mixed_row s)) i (mixed_row s) (mixed_rows rows)) e
pass_more n i j s rows k (suc m) w hs z =
    let e : k + suc m ≡ (k + m) + 1 = omega arith in
    ap (rest_of (next_row n i j (mixed_row s)) i (mixed_row s) (mixed_rows rows)) e
    ∙ pass n i j s rows (k + m) w hs (z (k + m) (omega arith) (omega arith))
    ∙ pass_more n i j s rows k m w hs (λ q l u. z q l (omega (arith, u)))

-- from one row to another, where the rows between have 0
pub passed : (n i j : ℕ) (s : MixedRow) (rows first : List MixedRow) (own : List ℕ) (from k : ℕ) → AreMixedRows n rows → IsMixedRow n s → from ≤ k → IsHolder own (mixed_rows first) j →
    ((q : ℕ) → from ≤ q → get_or (mixed_rows rows) q [] ≡ get_or (mixed_rows first) q []) → ((q : ℕ) → from ≤ q → q < k → bit own q ≡ 0) →
    rest_of (next_row n i j (mixed_row s)) i (mixed_row s) (mixed_rows rows) k ≡ rest_of (next_row n i j (mixed_row s)) i (mixed_row s) (mixed_rows rows) from
passed n i j s rows first own from k w hs l h there b =
    let e : k ≡ from + (k - from) = omega arith in
    ap (rest_of (next_row n i j (mixed_row s)) i (mixed_row s) (mixed_rows rows)) e
    ∙ pass_more n i j s rows from (k - from) w hs
    (λ q m u. ap (λ us. get_or us (suc j) zero_ℚ) (there q m) ∙ h q (b q m (omega (arith, u))))

-- ---- the rows that the pivot has not touched
-- a row that holds the variable has a bit
pub has_bit : (ws : List ℕ) (rows first : List MixedRow) (k j : ℕ) (r : MixedRow) → k < length rows → r ≡ get_or rows k r → get_or (mixed_rows rows) k [] ≡ get_or (mixed_rows first) k [] → IsHolder ws (mixed_rows first) j →
    (get_or (mixed_row r) (j + 1) zero_ℚ ≡ zero_ℚ → ⊥) → bit ws k ≡ 0 → ⊥
has_bit ws rows first k j r l re t h d b =
    d (ap (λ p. get_or (mixed_row r) p zero_ℚ) (behind j) ∙ ap (λ us. get_or us (suc j) zero_ℚ) (sym (mixed_read rows k r l re) ∙ t) ∙ h k b)

pub cleared_untouched : (rows first after : List MixedRow) (ws new : List ℕ) (from k : ℕ) → from ≤ k → after ≡ rows → ((q : ℕ) → (q ≡ k → ⊥) → bit new q ≡ 0 → bit ws q ≡ 0) →
    ((q : ℕ) (r : MixedRow) → bit ws q ≡ 0 → get_or rows q r ≡ get_or first q r) → ((q : ℕ) (r : MixedRow) → from ≤ q → get_or rows q r ≡ get_or first q r) →
    (q : ℕ) (r : MixedRow) → bit new q ≡ 0 → get_or after q r ≡ get_or first q r
cleared_untouched rows first after ws new from k m ae clear h t q r b =
    ap (λ (us : List MixedRow). get_or us q r) ae
    ∙ ⊎_elim (λ (e : q ≡ k). t q r (omega (arith, e, m))) (λ (d : q ≡ k → ⊥). h q r (clear q d b)) (cases_eq q k)

pub replaced_untouched : (rows first after : List MixedRow) (ws new : List ℕ) (k : ℕ) (row : MixedRow) → after ≡ set rows k row → new ≡ ws → (bit ws k ≡ 0 → ⊥) →
    ((q : ℕ) (r : MixedRow) → bit ws q ≡ 0 → get_or rows q r ≡ get_or first q r) → (q : ℕ) (r : MixedRow) → bit new q ≡ 0 → get_or after q r ≡ get_or first q r
replaced_untouched rows first after ws new k row ae we set_there h q r b =
    let c : bit ws q ≡ 0 = subst (λ (us : List ℕ). bit us q ≡ 0) we b in
    ap (λ (us : List MixedRow). get_or us q r) ae
    ∙ get_or-set_other rows k q row r (λ (e : q ≡ k). set_there (ap (bit ws) (sym e) ∙ c)) ∙ h q r c

pub later_same : (rows first after : List MixedRow) (from k : ℕ) → from ≤ k → after ≡ rows → ((q : ℕ) (r : MixedRow) → from ≤ q → get_or rows q r ≡ get_or first q r) →
    (q : ℕ) (r : MixedRow) → k + 1 ≤ q → get_or after q r ≡ get_or first q r
later_same rows first after from k m ae h q r l = ap (λ (us : List MixedRow). get_or us q r) ae ∙ h q r (omega (arith, m, l))

pub later_replaced : (rows first after : List MixedRow) (from k : ℕ) → from ≤ k → (row : MixedRow) → after ≡ set rows k row → ((q : ℕ) (r : MixedRow) → from ≤ q → get_or rows q r ≡ get_or first q r) →
    (q : ℕ) (r : MixedRow) → k + 1 ≤ q → get_or after q r ≡ get_or first q r
later_replaced rows first after from k m row ae h q r l =
    ap (λ (us : List MixedRow). get_or us q r) ae ∙ get_or-set_other rows k q row r (λ (e : q ≡ k). absurd (omega (arith, e, l))) ∙ h q r (omega (arith, m, l))

-- the leaving row is written in the end
pub pivot_untouched : (rows first after : List MixedRow) (ws : List ℕ) (i j : ℕ) (solved : MixedRow) → after ≡ set rows i solved → IsHolder ws (mixed_rows first) j → ((number_in (mixed_rows first) i j).num ≡ pos 0 → ⊥) →
    ((q : ℕ) (r : MixedRow) → bit ws q ≡ 0 → get_or rows q r ≡ get_or first q r) → (q : ℕ) (r : MixedRow) → bit ws q ≡ 0 → get_or after q r ≡ get_or first q r
pivot_untouched rows first after ws i j solved ae ho p h q r b =
    replaced_untouched rows first after ws ws i solved ae refl (λ c. p (ap (λ (z : ℚ). z.num) (ho i c) ∙ num-whole_ℚ (pos 0))) h q r b

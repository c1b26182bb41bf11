-- The pivot of a dictionary that keeps one row for the two variables of a column.
use Rattle.std.proofs.Common.{◌≡◌, ℕ, ◌+◌, ◌-◌, ◌<◌, ◌^◌, refl, sym, ap, ◌∙◌, subst, arith, List, [], length, get_or, set, map, Option, Some, None, Bool, false, Result, Ok, Err, MatchOption}
use Prim.Native.Nat.{suc}
use Rattle.std.specs.Global.{Vec}
use Rattle.std.specs.Prelude.{All}
use Rattle.std.specs.Vec.{with_item, with_items}
use Rattle.std.proofs.lemmas.List.{get_or-map, get_or_default, length-map, length-set}
use lib.IntN.{pos}
use Rattle.tetri_algebra.specs.Rational.{ℚ}
use Rattle.tetri_algebra.specs.RationalRing.{zero_ℚ, num-whole_ℚ}
use Rattle.tetri_base.specs.ResultSteps.{then_ok}
use Rattle.tetri_num.specs.declared.places.Place.{Place}
use Rattle.tetri_rows.specs.Rows.{solved_for}
use Rattle.tetri_rows.specs.declared.terms.Terms.{Terms}
use Rattle.tetri_dictionary.specs.declared.fault.PivotFault.{PivotFault}
use Rattle.tetri_dictionary.specs.declared.fault.PivotFault.TheVariants.{Past}
use Rattle.tetri_dictionary.specs.declared.mixed.MixedRow.{MixedRow}
use Rattle.tetri_dictionary.specs.declared.mixed.MixedRow.TheVariants.{Whole, Fractions}
use Rattle.tetri_dictionary.specs.declared.origins.Origin.{Origin}
use Rattle.tetri_dictionary.specs.declared.origins.Origin.TheVariants.{Kept}
use Rattle.tetri_dictionary.specs.declared.pairs.Pairs.{Pairs}
use Rattle.tetri_dictionary.specs.Below.{below_of}
use Rattle.tetri_dictionary.specs.Faults.{IsFault}
use Rattle.tetri_dictionary.specs.Holders.{bit, words_at, IsHolder, AreHolders}
use Rattle.tetri_dictionary.specs.Mirrors.{row_from, rows_from, IsBounded, IsOrigin}
use Rattle.tetri_dictionary.specs.Mixed.{mixed_row, mixed_rows, AreMixedRows}
use Rattle.tetri_dictionary.specs.PairPivots.{exchanged, AreHomes, AreTold, IsExchanged}
use Rattle.tetri_dictionary.specs.Pairs.{IsWholeRow, origin_at, table_of, IsKept, AreOrigins, IsPaired, IsPairs}
use Rattle.tetri_dictionary.specs.Pivots.{pivoted, pivoted_rows}
use Rattle.tetri_dictionary.specs.Tables.{Table, row_at}
use Rattle.tetri_dictionary.proofs.FullTables.{items_are}
use Rattle.tetri_dictionary.proofs.HolderRows.{some_row}
use Rattle.tetri_dictionary.proofs.MirrorNumbers.{IsShortNumber, short_numbers, short_solved}
use Rattle.tetri_dictionary.proofs.MirrorPivots.{AreShortRows, never_refused, new_bounded, new_count, pivoted_from}
use Rattle.tetri_dictionary.proofs.MixedPivots.{mixed_read}
use Rattle.tetri_dictionary.proofs.MixedRows.{mixed_wide}
use Rattle.tetri_dictionary.proofs.PairOrigins.{exchanged_origins}
use Rattle.tetri_dictionary.proofs.PairSigns.{told_first}
use Rattle.tetri_dictionary.proofs.PairTables.{mixed_of_whole}

-- a basic place whose row is kept, and a nonbasic place where that is not 0
pub record IsPivotable (t : Pairs) (i r j : ℕ) : Type 0 where
  pub sound : IsPairs t
  pub row : i < length t.basic.items
  pub kept : origin_at t.origins.items i ≡ Kept r
  pub place : j < length t.nonbasic.items
  pub pivot : (get_or (row_at (table_of t) i) (suc j) zero_ℚ).num ≡ pos 0 → ⊥

-- ---- the places
within_origins : (t : Pairs) (i r j : ℕ) → IsPivotable t i r j → i < length t.origins.items
within_origins t i r j h = let a = h.sound.paired.origins.count in let b = h.row in omega arith

pub kept_within : (t : Pairs) (i r j : ℕ) → IsPivotable t i r j → r < length t.rows.items
kept_within t i r j h = subst (IsOrigin (length t.nonbasic.items) (length t.rows.items)) h.kept (h.sound.paired.origins.within i (Kept 0) (within_origins t i r j h))

is_own : (r : ℕ) (o : Origin) → o ≡ Kept r → IsKept r o
is_own r o e = subst (IsKept r) (sym e) refl

only_place : (t : Pairs) (i r j : ℕ) → IsPivotable t i r j → (q : ℕ) → q < length t.origins.items → IsKept r (origin_at t.origins.items q) → q ≡ i
only_place t i r j h q l k =
    let home = h.sound.paired.origins.home r (kept_within t i r j h) in
    home.only q l k ∙ sym (home.only i (within_origins t i r j h) (is_own r (origin_at t.origins.items i) h.kept))

not_objective : (t : Pairs) (i r j : ℕ) → IsPivotable t i r j → r ≡ length t.rows.items - 1 → ⊥
not_objective t i r j h e =
    let c = length t.basic.items in
    let o = h.sound.paired.origins in
    let k = o.count in
    let l : c < length t.origins.items = omega arith in
    let s : c ≡ i = only_place t i r j h c l (is_own r (origin_at t.origins.items c) (o.objective ∙ ap Kept (sym e))) in
    let b = h.row in
    omega (arith, s, b)

-- ---- the rows that are kept
whole_short : (n : ℕ) (x : MixedRow) → IsWholeRow n x → All IsShortNumber (mixed_row x)
whole_short n (Whole den numbers) h = short_numbers den numbers.items h.over h.short
whole_short n (Fractions numbers) h = absurd h

whole_solved : (n j : ℕ) (x : MixedRow) → IsWholeRow n x → j < n → ((get_or (mixed_row x) (suc j) zero_ℚ).num ≡ pos 0 → ⊥) → All IsShortNumber (solved_for (suc j) (mixed_row x))
whole_solved n j (Whole den numbers) h l d = let w = h.wide in short_solved (suc j) den numbers.items h.over h.short (omega (arith, w, l)) d
whole_solved n j (Fractions numbers) h l d = absurd h

at_row : (P : List ℚ → Type 0) (n : ℕ) (rows : List MixedRow) (q : ℕ) → All (IsWholeRow n) rows → q < length rows → ((x : MixedRow) → IsWholeRow n x → P (mixed_row x)) → P (get_or (mixed_rows rows) q [])
at_row P n rows q w l f =
    let a = some_row rows q l in
    subst P (sym (mixed_read rows q a.0 l a.1)) (f a.0 (subst (λ (x : MixedRow). IsWholeRow n x) (sym a.1) (w q a.0 l)))

own_pivot : (t : Pairs) (i r j : ℕ) → IsPivotable t i r j → (get_or (get_or (mixed_rows t.rows.items) r []) (suc j) zero_ℚ).num ≡ pos 0 → ⊥
own_pivot t i r j h e =
    let n = length t.nonbasic.items in
    let kept = mixed_rows t.rows.items in
    let g : row_at (table_of t) i ≡ get_or kept r [] = get_or-map (row_from n kept) t.origins.items i (Kept 0) [] (within_origins t i r j h) ∙ ap (row_from n kept) h.kept in
    h.pivot (ap (λ us. (get_or us (suc j) zero_ℚ).num) g ∙ e)

pub short_rows : (t : Pairs) (i r j : ℕ) → IsPivotable t i r j → AreShortRows (length t.nonbasic.items) (length t.rows.items) r j (mixed_rows t.rows.items)
short_rows t i r j h =
    let n = length t.nonbasic.items in
    let w = h.sound.whole in
    let own = own_pivot t i r j h in
    record {
      count = length-map t.rows.items mixed_row;
      row = kept_within t i r j h;
      place = h.place;
      wide = λ q l. at_row (λ us. length us ≡ n + 1) n t.rows.items q w l (λ x k. mixed_wide n x (mixed_of_whole n x k));
      short = λ q l. at_row (λ us. All IsShortNumber us) n t.rows.items q w l (λ x k. whole_short n x k);
      pivot = own;
      solved =
          at_row (λ us. ((get_or us (suc j) zero_ℚ).num ≡ pos 0 → ⊥) → All IsShortNumber (solved_for (suc j) us)) n t.rows.items r w (kept_within t i r j h) (λ x k. whole_solved n j x k h.place) own;
    }

-- no number of a pivot leaves the range
pub never_past : (t : Pairs) (i r j n : ℕ) (f : PivotFault) (p : Place) (rows : List MixedRow) → IsPivotable t i r j → n ≡ length t.nonbasic.items → rows ≡ t.rows.items → f ≡ Past p → IsFault f (pivoted_rows n r j (mixed_rows rows)) → ⊥
never_past t i r j n f p rows h ne re fe e =
    let a = never_refused (length t.nonbasic.items) (length t.rows.items) r j (mixed_rows t.rows.items) (short_rows t i r j h) in
    let s : pivoted_rows n r j (mixed_rows rows) ≡ Err p = subst (λ (g : PivotFault). IsFault g (pivoted_rows n r j (mixed_rows rows))) fe e in
    both (pivoted_rows n r j (mixed_rows rows)) a.0 (ap (λ z. pivoted_rows z r j (mixed_rows rows)) ne ∙ ap (λ (us : List MixedRow). pivoted_rows (length t.nonbasic.items) r j (mixed_rows us)) re ∙ a.1) s
  where
    both : (o : Result (List (List ℚ)) Place) (x : List (List ℚ)) → o ≡ Ok x → o ≡ Err p → ⊥
    both o x e g = cc

-- ---- after the exchange
count_after : (t u : Pairs) (i r j : ℕ) → IsPivotable t i r j → IsExchanged t u i r j → length u.rows.items ≡ length t.rows.items
count_after t u i r j h e =
    sym (length-map u.rows.items mixed_row) ∙ new_count (length t.nonbasic.items) (length t.rows.items) r j (mixed_rows t.rows.items) (mixed_rows u.rows.items) (short_rows t i r j h) e.formed

columns_after : (t u : Pairs) (i r j : ℕ) → IsExchanged t u i r j → length u.nonbasic.items ≡ length t.nonbasic.items
columns_after t u i r j e = ap (λ (us : List ℕ). length us) e.nonbasic ∙ length-set t.nonbasic.items j (get_or t.basic.items i 0)

places_after : (t u : Pairs) (i r j : ℕ) → IsExchanged t u i r j → length u.basic.items ≡ length t.basic.items
places_after t u i r j e = ap (λ (us : List ℕ). length us) e.basic ∙ length-set t.basic.items i (get_or t.nonbasic.items j 0)

origins_count : (t u : Pairs) (i r j : ℕ) → IsExchanged t u i r j → length u.origins.items ≡ length t.origins.items
origins_count t u i r j e = ap (λ (us : List Origin). length us) e.origins ∙ length-map t.origins.items (exchanged r j)

pub origins_after : (t u : Pairs) (i r j : ℕ) → IsPivotable t i r j → IsExchanged t u i r j →
    AreOrigins (length u.nonbasic.items) (length u.rows.items) (length u.basic.items) u.origins.items u.homes.items u.mirrors.items u.columns.items
origins_after t u i r j h e =
    let n = length t.nonbasic.items in
    let m = length t.rows.items in
    let c = length t.basic.items in
    let n' = length u.nonbasic.items in
    let m' = length u.rows.items in
    let c' = length u.basic.items in
    let os = map (exchanged r j) t.origins.items in
    let ms = set t.mirrors.items r (get_or t.columns.items j None) in
    let cs = set t.columns.items j (get_or t.mirrors.items r None) in
    subst (λ z. AreOrigins z m' c' u.origins.items u.homes.items u.mirrors.items u.columns.items) (sym (columns_after t u i r j e))
    (subst (λ z. AreOrigins n z c' u.origins.items u.homes.items u.mirrors.items u.columns.items) (sym (count_after t u i r j h e))
    (subst (λ z. AreOrigins n m z u.origins.items u.homes.items u.mirrors.items u.columns.items) (sym (places_after t u i r j e))
    (subst (λ (us : List Origin). AreOrigins n m c us u.homes.items u.mirrors.items u.columns.items) (sym e.origins)
    (subst (λ (us : List ℕ). AreOrigins n m c os us u.mirrors.items u.columns.items) (sym e.homes)
    (subst (λ (us : List (Option ℕ)). AreOrigins n m c os t.homes.items us u.columns.items) (sym e.mirrors)
    (subst (λ (us : List (Option ℕ)). AreOrigins n m c os t.homes.items ms us) (sym e.columns)
    (exchanged_origins n m c r j t.origins.items t.homes.items t.mirrors.items t.columns.items h.sound.paired.origins (kept_within t i r j h) h.place (not_objective t i r j h))))))))

pub homes_after : (t u : Pairs) (i r j : ℕ) → IsPivotable t i r j → IsExchanged t u i r j → AreHomes (length t.nonbasic.items) (length u.rows.items) u.origins.items u.homes.items u.mirrors.items
homes_after t u i r j h e =
    let o = origins_after t u i r j h e in
    record {
      within = subst (λ z. All (IsOrigin z (length u.rows.items)) u.origins.items) (columns_after t u i r j e) o.within;
      homes_count = o.homes_count;
      home = o.home;
      mirrors_count = o.mirrors_count;
      mirror = o.mirror;
    }

-- a row without a bit is whole as it was
pub whole_after : (t u : Pairs) (i r j : ℕ) → IsPivotable t i r j → IsExchanged t u i r j → (q : ℕ) (row : MixedRow) → q < length u.rows.items → bit (words_at u.holders.items j) q ≡ 0 → IsWholeRow (length t.nonbasic.items) (get_or u.rows.items q row)
whole_after t u i r j h e q row l b =
    subst (λ (x : MixedRow). IsWholeRow (length t.nonbasic.items) x) (sym (e.untouched q row b)) (h.sound.whole q row (subst (λ z. q < z) (count_after t u i r j h e) l))

same_row : (t u : Pairs) (i r j : ℕ) → IsPivotable t i r j → IsExchanged t u i r j → (q : ℕ) → q < length t.rows.items → bit (words_at u.holders.items j) q ≡ 0 → get_or (mixed_rows u.rows.items) q [] ≡ get_or (mixed_rows t.rows.items) q []
same_row t u i r j h e q l b =
    let a = some_row t.rows.items q l in
    let l' : q < length u.rows.items = subst (λ z. q < z) (sym (count_after t u i r j h e)) l in
    get_or-map mixed_row u.rows.items q a.0 [] l' ∙ ap mixed_row (e.untouched q a.0 b) ∙ sym (get_or-map mixed_row t.rows.items q a.0 [] l)

own_bit : (t u : Pairs) (i r j : ℕ) → IsPivotable t i r j → IsExchanged t u i r j → bit (words_at u.holders.items j) r ≡ 0 → ⊥
own_bit t u i r j h e b = own_pivot t i r j h (ap (λ (z : ℚ). z.num) (e.holder r b) ∙ num-whole_ℚ (pos 0))

pub told_after : (t u : Pairs) (i r j : ℕ) → IsPivotable t i r j → IsExchanged t u i r j → AreTold (length t.nonbasic.items) (mixed_rows u.rows.items) u.origins.items (words_at u.holders.items j) 0 u.below.items
told_after t u i r j h e =
    subst (λ (us : List Origin). AreTold (length t.nonbasic.items) (mixed_rows u.rows.items) us (words_at u.holders.items j) 0 u.below.items) (sym e.origins)
    (told_first (length t.nonbasic.items) (length t.rows.items) (length t.basic.items) r j (mixed_rows t.rows.items) (mixed_rows u.rows.items) t.origins.items t.homes.items t.mirrors.items t.columns.items (words_at u.holders.items j) t.below.items u.below.items
    h.sound.paired.origins (kept_within t i r j h) h.sound.below (own_bit t u i r j h e) (same_row t u i r j h e) e.below)

-- ---- what the pivot leaves
pub pivoted_after : (t u : Pairs) (i r j : ℕ) → IsPivotable t i r j → IsExchanged t u i r j → pivoted (table_of t) i j ≡ Ok (table_of u)
unfolding pivoted
pivoted_after t u i r j h e =
    let n = length t.nonbasic.items in
    let new = mixed_rows u.rows.items in
    let made : List ℕ → List ℕ → List (List ℚ) → Result Table Place = λ x y z. Ok (record { nonbasic = x; basic = y; rows = z }) in
    let x = set t.nonbasic.items j (get_or t.basic.items i 0) in
    let y = set t.basic.items i (get_or t.nonbasic.items j 0) in
    ap (λ o. then_ok o (λ rows. made x y rows))
    (pivoted_from n (length t.rows.items) i r j (mixed_rows t.rows.items) new t.origins.items (short_rows t i r j h) h.sound.paired.origins.within (within_origins t i r j h) h.kept (only_place t i r j h) e.formed)
    ∙ ap (λ (us : List Origin). made x y (rows_from n new us)) (sym e.origins)
    ∙ ap (λ z. made x y (rows_from z new u.origins.items)) (sym (columns_after t u i r j e))
    ∙ ap (λ (us : List ℕ). made us y (rows_from (length u.nonbasic.items) new u.origins.items)) (sym e.nonbasic)
    ∙ ap (λ (us : List ℕ). made u.nonbasic.items us (rows_from (length u.nonbasic.items) new u.origins.items)) (sym e.basic)

pub bounded_after : (t u : Pairs) (i r j : ℕ) → IsPivotable t i r j → IsExchanged t u i r j → All (λ (row : List ℚ). All IsBounded row) (mixed_rows u.rows.items)
bounded_after t u i r j h e q d l =
    let new = mixed_rows u.rows.items in
    let l' : q < length t.rows.items = subst (λ z. q < z) (length-map u.rows.items mixed_row ∙ count_after t u i r j h e) l in
    subst (λ (row : List ℚ). All IsBounded row) (get_or_default new q [] d l) (new_bounded (length t.nonbasic.items) (length t.rows.items) r j (mixed_rows t.rows.items) new (short_rows t i r j h) e.formed q l')

-- whatever signs stand there
pub paired_after : (t u : Pairs) (i r j : ℕ) (below : Vec Bool) → IsPivotable t i r j → IsExchanged t u i r j → length below.items ≡ length t.below.items → IsPaired (record u { below = below })
paired_after t u i r j below h e l =
    let p = h.sound.paired in
    let n = columns_after t u i r j e in
    let m = count_after t u i r j h e in
    let o = origins_count t u i r j e in
    record {
      origins = origins_after t u i r j h e;
      some = subst (λ z. 0 < z) (sym m) p.some;
      rows = subst (λ z. AreMixedRows z u.rows.items) (sym n) e.rows;
      row_below = e.row_below;
      holders = subst (λ z. AreHolders z u.holders.items (mixed_rows u.rows.items)) (sym n) e.holders;
      below_count = l ∙ p.below_count ∙ sym o;
      few_rows = subst (λ z. z < 2 ^ 32) (sym o) p.few_rows;
      few_kept = subst (λ z. z < 2 ^ 32) (sym m) p.few_kept;
      few_columns = subst (λ z. z < 2 ^ 31) (sym n) p.few_columns;
    }

pub pairs_after : (t u : Pairs) (i r j : ℕ) (below : Vec Bool) → IsPivotable t i r j → IsExchanged t u i r j → length below.items ≡ length t.below.items → All (IsWholeRow (length t.nonbasic.items)) u.rows.items →
    below.items ≡ below_of (rows_from (length t.nonbasic.items) (mixed_rows u.rows.items) u.origins.items) → IsPairs (record u { below = below })
pairs_after t u i r j below h e l w be =
    let n = columns_after t u i r j e in
    record {
      paired = paired_after t u i r j below h e l;
      whole = subst (λ z. All (IsWholeRow z) u.rows.items) (sym n) w;
      below = be ∙ ap (λ z. below_of (rows_from z (mixed_rows u.rows.items) u.origins.items)) (sym n);
    }

-- ---- as the code has it: what each list was and is
pub record IsHeldPivot (t : Pairs) (n r j : ℕ) (old_rows rows : List MixedRow) (old_signs signs : List Bool) (old_holders holders : List (Vec ℕ)) : Type 0 where
  pub count : n ≡ length t.nonbasic.items
  pub was_rows : old_rows ≡ t.rows.items
  pub was_signs : old_signs ≡ t.row_below.items
  pub was_holders : old_holders ≡ t.holders.items
  pub many_rows : length rows ≡ length old_rows
  pub many_signs : length signs ≡ length old_signs
  pub many_holders : length holders ≡ length old_holders
  pub formed : pivoted_rows n r j (mixed_rows old_rows) ≡ Ok (mixed_rows rows)
  pub sound : AreMixedRows n rows
  pub below : signs ≡ below_of (mixed_rows rows)
  pub hold : AreHolders n holders (mixed_rows rows)
  pub holder : IsHolder (words_at holders j) (mixed_rows old_rows) j
  pub untouched : (q : ℕ) (row : MixedRow) → bit (words_at holders j) q ≡ 0 → get_or rows q row ≡ get_or old_rows q row

pub record AreWritten (t : Pairs) (r j : ℕ) (place : Option ℕ) (old_below below : List Bool) (old_origins origins : List Origin) (old_mirrors mirrors old_columns columns : List (Option ℕ)) : Type 0 where
  pub place_is : place ≡ get_or t.mirrors.items r place
  pub was_below : old_below ≡ t.below.items
  pub was_origins : old_origins ≡ t.origins.items
  pub was_mirrors : old_mirrors ≡ t.mirrors.items
  pub was_columns : old_columns ≡ t.columns.items
  pub many_below : length below ≡ length old_below
  pub cleared : MatchOption place (below ≡ old_below) (λ k. below ≡ set old_below k false)
  pub made : (n m c : ℕ) (homes : List ℕ) → AreOrigins n m c old_origins homes old_mirrors old_columns → r < m → j < n → origins ≡ map (exchanged r j) old_origins
  pub mirrors_are : mirrors ≡ set old_mirrors r (get_or old_columns j None)
  pub columns_are : columns ≡ set old_columns j (get_or old_mirrors r None)

origins_were : (t : Pairs) (r j : ℕ) (place : Option ℕ) (old_below below : List Bool) (old_origins origins : List Origin) (old_mirrors mirrors old_columns columns : List (Option ℕ)) → IsPaired t → AreWritten t r j place old_below below old_origins origins old_mirrors mirrors old_columns columns →
    AreOrigins (length t.nonbasic.items) (length t.rows.items) (length t.basic.items) old_origins t.homes.items old_mirrors old_columns
origins_were t r j place old_below below old_origins origins old_mirrors mirrors old_columns columns p w =
    let n = length t.nonbasic.items in
    let m = length t.rows.items in
    let c = length t.basic.items in
    subst (λ (us : List Origin). AreOrigins n m c us t.homes.items old_mirrors old_columns) (sym w.was_origins)
    (subst (λ (us : List (Option ℕ)). AreOrigins n m c t.origins.items t.homes.items us old_columns) (sym w.was_mirrors)
    (subst (λ (us : List (Option ℕ)). AreOrigins n m c t.origins.items t.homes.items t.mirrors.items us) (sym w.was_columns) p.origins))

pub exchange_made : (t : Pairs) (i r j n x y : ℕ) (old_rows rows : List MixedRow) (old_signs signs : List Bool) (old_holders holders : List (Vec ℕ)) (terms : Terms) (place : Option ℕ) (old_below below : List Bool) (old_origins origins : List Origin) (old_mirrors mirrors old_columns columns : List (Option ℕ)) →
    IsPivotable t i r j → IsHeldPivot t n r j old_rows rows old_signs signs old_holders holders → AreWritten t r j place old_below below old_origins origins old_mirrors mirrors old_columns columns → x ≡ get_or t.basic.items i 0 → y ≡ get_or t.nonbasic.items j 0 →
    IsExchanged t (record {
      nonbasic = with_item t.nonbasic j x;
      basic = with_item t.basic i y;
      origins = with_items t.origins origins;
      below = with_items t.below below;
      rows = with_items t.rows rows;
      row_below = with_items t.row_below signs;
      homes = t.homes;
      mirrors = with_items t.mirrors mirrors;
      columns = with_items t.columns columns;
      holders = with_items t.holders holders;
      terms = terms;
    }) i r j
exchange_made t i r j n x y old_rows rows old_signs signs old_holders holders terms place old_below below old_origins origins old_mirrors mirrors old_columns columns h p w xe ye =
    let lr = kept_within t i r j h in
    let o = origins_were t r j place old_below below old_origins origins old_mirrors mirrors old_columns columns h.sound.paired w in
    let rows_are = items_are t.rows rows (p.many_rows ∙ ap length p.was_rows) in
    let signs_are = items_are t.row_below signs (p.many_signs ∙ ap length p.was_signs) in
    let holders_are = items_are t.holders holders (p.many_holders ∙ ap length p.was_holders) in
    let below_is = items_are t.below below (w.many_below ∙ ap length w.was_below) in
    let made = w.made (length t.nonbasic.items) (length t.rows.items) (length t.basic.items) t.homes.items o lr h.place in
    let origins_are = items_are t.origins origins (ap length made ∙ length-map old_origins (exchanged r j) ∙ ap length w.was_origins) in
    let mirrors_are = items_are t.mirrors mirrors (ap length w.mirrors_are ∙ length-set old_mirrors r (get_or old_columns j None) ∙ ap length w.was_mirrors) in
    let columns_are = items_are t.columns columns (ap length w.columns_are ∙ length-set old_columns j (get_or old_mirrors r None) ∙ ap length w.was_columns) in
    let lm : r < length t.mirrors.items = subst (λ z. r < z) (sym h.sound.paired.origins.mirrors_count) lr in
    let pe : place ≡ get_or t.mirrors.items r None = w.place_is ∙ get_or_default t.mirrors.items r place None lm in
    let k = length t.nonbasic.items in
    record {
      formed =
          ap (λ z. pivoted_rows z r j (mixed_rows t.rows.items)) (sym p.count) ∙ ap (λ (us : List MixedRow). pivoted_rows n r j (mixed_rows us)) (sym p.was_rows) ∙ p.formed ∙ ap (λ (us : List MixedRow). Ok (mixed_rows us)) (sym rows_are);
      nonbasic = ap (λ z. set t.nonbasic.items j z) xe;
      basic = ap (λ z. set t.basic.items i z) ye;
      origins = origins_are ∙ made ∙ ap (λ (us : List Origin). map (exchanged r j) us) w.was_origins;
      homes = refl;
      mirrors = mirrors_are ∙ w.mirrors_are ∙ ap (λ (us : List (Option ℕ)). set us r (get_or old_columns j None)) w.was_mirrors ∙ ap (λ (us : List (Option ℕ)). set t.mirrors.items r (get_or us j None)) w.was_columns;
      columns = columns_are ∙ w.columns_are ∙ ap (λ (us : List (Option ℕ)). set us j (get_or old_mirrors r None)) w.was_columns ∙ ap (λ (us : List (Option ℕ)). set t.columns.items j (get_or us r None)) w.was_mirrors;
      below =
          subst (λ (us : List Bool). MatchOption (get_or t.mirrors.items r None) (us ≡ t.below.items) (λ q. us ≡ set t.below.items q false)) (sym below_is)
          (subst (λ (us : List Bool). MatchOption (get_or t.mirrors.items r None) (below ≡ us) (λ q. below ≡ set us q false)) w.was_below
          (subst (λ (z : Option ℕ). MatchOption z (below ≡ old_below) (λ q. below ≡ set old_below q false)) pe w.cleared));
      rows = subst (λ (us : List MixedRow). AreMixedRows k us) (sym rows_are) (subst (λ z. AreMixedRows z rows) p.count p.sound);
      row_below = signs_are ∙ p.below ∙ ap (λ (us : List MixedRow). below_of (mixed_rows us)) (sym rows_are);
      holders =
          subst (λ (us : List MixedRow). AreHolders k (with_items t.holders holders).items (mixed_rows us)) (sym rows_are)
          (subst (λ (us : List (Vec ℕ)). AreHolders k us (mixed_rows rows)) (sym holders_are) (subst (λ z. AreHolders z holders (mixed_rows rows)) p.count p.hold));
      holder =
          subst (λ (us : List (Vec ℕ)). IsHolder (words_at us j) (mixed_rows t.rows.items) j) (sym holders_are)
          (subst (λ (us : List MixedRow). IsHolder (words_at holders j) (mixed_rows us) j) p.was_rows p.holder);
      untouched = λ q row b.
          ap (λ (us : List MixedRow). get_or us q row) rows_are ∙ p.untouched q row (subst (λ (us : List (Vec ℕ)). bit (words_at us j) q ≡ 0) holders_are b) ∙ ap (λ (us : List MixedRow). get_or us q row) p.was_rows;
    }

signs_count : (t u : Pairs) (i r j : ℕ) → IsExchanged t u i r j → length u.below.items ≡ length t.below.items
signs_count t u i r j e = by_place (get_or t.mirrors.items r None) e.below
  where
    by_place : (o : Option ℕ) → MatchOption o (u.below.items ≡ t.below.items) (λ k. u.below.items ≡ set t.below.items k false) → length u.below.items ≡ length t.below.items
    by_place None s = ap (λ (us : List Bool). length us) s
    by_place (Some k) s = ap (λ (us : List Bool). length us) s ∙ length-set t.below.items k false

-- the lists that the signs are told by
pub record AreRead (t u : Pairs) (j n : ℕ) (rows : List MixedRow) (homes : List ℕ) (mirrors : List (Option ℕ)) (origins : List Origin) (words : List ℕ) (below : List Bool) (own : Vec ℕ) : Type 0 where
  pub count : n ≡ length t.nonbasic.items
  pub rows_are : rows ≡ u.rows.items
  pub homes_are : homes ≡ u.homes.items
  pub mirrors_are : mirrors ≡ u.mirrors.items
  pub origins_are : origins ≡ u.origins.items
  pub words_are : words ≡ own.items
  pub own_is : own ≡ get_or u.holders.items j own
  pub below_is : below ≡ u.below.items

own_words : (t u : Pairs) (i r j n : ℕ) (rows : List MixedRow) (homes : List ℕ) (mirrors : List (Option ℕ)) (origins : List Origin) (words : List ℕ) (below : List Bool) (own : Vec ℕ) → IsPivotable t i r j → IsExchanged t u i r j → AreRead t u j n rows homes mirrors origins words below own →
    words ≡ words_at u.holders.items j
own_words t u i r j n rows homes mirrors origins words below own h e a =
    a.words_are ∙ ap (λ (v : Vec ℕ). v.items) a.own_is ∙ sym (get_or-map (λ (v : Vec ℕ). v.items) u.holders.items j own [] (subst (λ z. j < z) (sym e.holders.columns) h.place))

pub few_read : (t u : Pairs) (i r j n : ℕ) (rows : List MixedRow) (homes : List ℕ) (mirrors : List (Option ℕ)) (origins : List Origin) (words : List ℕ) (below : List Bool) (own : Vec ℕ) → IsPivotable t i r j → IsExchanged t u i r j → AreRead t u j n rows homes mirrors origins words below own →
    length rows < 2 ^ 32
few_read t u i r j n rows homes mirrors origins words below own h e a = subst (λ z. z < 2 ^ 32) (sym (ap length a.rows_are ∙ count_after t u i r j h e)) h.sound.paired.few_kept

pub homes_read : (t u : Pairs) (i r j n : ℕ) (rows : List MixedRow) (homes : List ℕ) (mirrors : List (Option ℕ)) (origins : List Origin) (words : List ℕ) (below : List Bool) (own : Vec ℕ) → IsPivotable t i r j → IsExchanged t u i r j → AreRead t u j n rows homes mirrors origins words below own →
    AreHomes n (length rows) origins homes mirrors
homes_read t u i r j n rows homes mirrors origins words below own h e a =
    subst (λ z. AreHomes z (length rows) origins homes mirrors) (sym a.count)
    (subst (λ (us : List MixedRow). AreHomes (length t.nonbasic.items) (length us) origins homes mirrors) (sym a.rows_are)
    (subst (λ (us : List Origin). AreHomes (length t.nonbasic.items) (length u.rows.items) us homes mirrors) (sym a.origins_are)
    (subst (λ (us : List ℕ). AreHomes (length t.nonbasic.items) (length u.rows.items) u.origins.items us mirrors) (sym a.homes_are)
    (subst (λ (us : List (Option ℕ)). AreHomes (length t.nonbasic.items) (length u.rows.items) u.origins.items u.homes.items us) (sym a.mirrors_are) (homes_after t u i r j h e)))))

pub whole_read : (t u : Pairs) (i r j n : ℕ) (rows : List MixedRow) (homes : List ℕ) (mirrors : List (Option ℕ)) (origins : List Origin) (words : List ℕ) (below : List Bool) (own : Vec ℕ) → IsPivotable t i r j → IsExchanged t u i r j → AreRead t u j n rows homes mirrors origins words below own →
    (q : ℕ) (row : MixedRow) → q < length rows → bit words q ≡ 0 → IsWholeRow n (get_or rows q row)
whole_read t u i r j n rows homes mirrors origins words below own h e a q row l b =
    subst (λ z. IsWholeRow z (get_or rows q row)) (sym a.count)
    (subst (λ (us : List MixedRow). IsWholeRow (length t.nonbasic.items) (get_or us q row)) (sym a.rows_are)
    (whole_after t u i r j h e q row (subst (λ (us : List MixedRow). q < length us) a.rows_are l) (subst (λ (us : List ℕ). bit us q ≡ 0) (own_words t u i r j n rows homes mirrors origins words below own h e a) b)))

pub told_read : (t u : Pairs) (i r j n : ℕ) (rows : List MixedRow) (homes : List ℕ) (mirrors : List (Option ℕ)) (origins : List Origin) (words : List ℕ) (below : List Bool) (own : Vec ℕ) → IsPivotable t i r j → IsExchanged t u i r j → AreRead t u j n rows homes mirrors origins words below own →
    AreTold n (mixed_rows rows) origins words 0 below
told_read t u i r j n rows homes mirrors origins words below own h e a =
    subst (λ z. AreTold z (mixed_rows rows) origins words 0 below) (sym a.count)
    (subst (λ (us : List MixedRow). AreTold (length t.nonbasic.items) (mixed_rows us) origins words 0 below) (sym a.rows_are)
    (subst (λ (us : List Origin). AreTold (length t.nonbasic.items) (mixed_rows u.rows.items) us words 0 below) (sym a.origins_are)
    (subst (λ (us : List ℕ). AreTold (length t.nonbasic.items) (mixed_rows u.rows.items) u.origins.items us 0 below) (sym (own_words t u i r j n rows homes mirrors origins words below own h e a))
    (subst (λ (us : List Bool). AreTold (length t.nonbasic.items) (mixed_rows u.rows.items) u.origins.items (words_at u.holders.items j) 0 us) (sym a.below_is) (told_after t u i r j h e)))))

-- with the signs that are told
pub paired_read : (t u : Pairs) (i r j : ℕ) (signs : List Bool) → IsPivotable t i r j → IsExchanged t u i r j → IsPaired (record u { below = with_items u.below signs })
paired_read t u i r j signs h e = paired_after t u i r j (with_items u.below signs) h e (sym (with_items u.below signs).ok.0 ∙ u.below.ok.0 ∙ signs_count t u i r j e)

pub pairs_read : (t u : Pairs) (i r j n : ℕ) (rows : List MixedRow) (origins : List Origin) (below signs : List Bool) → IsPivotable t i r j → IsExchanged t u i r j → n ≡ length t.nonbasic.items → rows ≡ u.rows.items → origins ≡ u.origins.items → below ≡ u.below.items → length signs ≡ length below →
    All (IsWholeRow n) rows → signs ≡ below_of (rows_from n (mixed_rows rows) origins) → IsPairs (record u { below = with_items u.below signs })
pairs_read t u i r j n rows origins below signs h e ne re oe be le w se =
    let s = items_are u.below signs (le ∙ ap length be) in
    let k = length t.nonbasic.items in
    pairs_after t u i r j (with_items u.below signs) h e (ap length s ∙ le ∙ ap length be ∙ signs_count t u i r j e)
    (subst (λ (us : List MixedRow). All (IsWholeRow k) us) re (subst (λ z. All (IsWholeRow z) rows) ne w))
    (s ∙ se ∙ ap (λ z. below_of (rows_from z (mixed_rows rows) origins)) ne ∙ ap (λ (us : List MixedRow). below_of (rows_from k (mixed_rows us) origins)) re ∙ ap (λ (us : List Origin). below_of (rows_from k (mixed_rows u.rows.items) us)) oe)

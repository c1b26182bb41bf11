-- Places that are added one by one to the first dictionary.
use Rattle.std.proofs.Common.{◌≡◌, ℕ, ◌+◌, ◌<◌, ◌≤◌, refl, sym, ap, ◌∙◌, subst, arith, List, [], ◌∷◌, ◌++◌, length, get_or, set, map, take, Bool, true, false, cond, ◌==◌, Option, None, Some, replicate, Result, Ok, Err, ⊎_elim}
use Prim.Native.Nat.{zero, suc}
use Rattle.std.specs.Prelude.{All, IfOk, ◌≤ℤ◌}
use Rattle.std.proofs.lemmas.Bool.{cases_eq, cases_lt}
use Rattle.std.proofs.lemmas.List.{get_or_append_left, get_or_default, get_or-map, get_or-replicate, get_or-set_same, get_or-set_other, length-append, length-map, length-replicate, length-set, map-append, take_more, take_all}
use Rattle.std.proofs.lemmas.List.Elements.{All-push}
use Rattle.std.proofs.Math.Seq.{get_or-append_seam}
use lib.IntN.{ℤ, pos, negsuc}
use lib.Signed.{le_z, lt_z}
use Rattle.std.proofs.lemmas.Int.{ints}
use Rattle.tetri_rows.proofs.RowLaws.{from_test}
use Rattle.tetri_algebra.specs.Rational.{ℚ, fraction, fraction-one, whole_ℚ}
use Rattle.tetri_algebra.specs.RationalRing.{◌+ℚ◌, neg_ℚ, one_ℚ, zero_ℚ, num-whole_ℚ, ℚ_ring}
use Rattle.tetri_algebra.specs.RingSolver.{var, nil, minus, ring, ◌⊕◌}
use Rattle.tetri_num.specs.Frac.{value}
use Rattle.tetri_dictionary.specs.declared.mixed.MixedRow.{MixedRow}
use Rattle.tetri_dictionary.specs.declared.origins.Origin.{Origin}
use Rattle.tetri_dictionary.specs.declared.origins.Origin.TheVariants.{Kept, Mirror, Column}
use Rattle.tetri_dictionary.specs.declared.pairs_start.Draft.{Draft}
use Rattle.tetri_dictionary.specs.Below.{below_of}
use Rattle.tetri_dictionary.specs.Mirrors.{mirror, one_at, variable_row, row_from, rows_from, IsOrigin, IsMirrorWithin, IsWidth}
use Rattle.tetri_dictionary.specs.Pairs.{IsKept, IsMirrorOf, IsOfColumn, IsOnlyPlace, IsPlaceOf, origin_at}
use Rattle.tetri_dictionary.specs.Drafts.{draft_rows, IsDraft}
use Rattle.tetri_dictionary.specs.Start.{minus_one_at}
use Rattle.tetri_dictionary.specs.Mixed.{mixed_row, mixed_rows, AreMixedRows, IsMixedRow}
use Rattle.tetri_dictionary.specs.Tables.{constant_of, is_negative}
use Rattle.tetri_dictionary.proofs.MirrorPlaces.{neg_whole}

less_zero : (w : ℤ) → whole_ℚ w +ℚ neg_ℚ zero_ℚ ≡ whole_ℚ w
less_zero w = ring ℚ_ring (whole_ℚ w ∷ []) (var 0 ⊕ minus nil) (var 0) refl

-- ---- the slack of a column's bounds, as the width less its variable
pub column_mirrored : (cs : List ℤ) (j : ℕ) (w : ℤ) → mirror w (variable_row (length cs) j) ≡ map whole_ℚ (w ∷ minus_one_at j 0 cs)
column_mirrored cs j w = ap (λ z. z ∷ map neg_ℚ (one_at j 0 (length cs))) (less_zero w) ∙ ap (λ zs. whole_ℚ w ∷ zs) (from 0 cs)
  where
    one : (t : Bool) → neg_ℚ (cond t (whole_ℚ (pos 1)) zero_ℚ) ≡ whole_ℚ (cond t (negsuc 0) (pos 0))
    one true = neg_whole (pos 1)
    one false = neg_whole (pos 0)

    from : (k : ℕ) (cs : List ℤ) → map neg_ℚ (one_at j k (length cs)) ≡ map whole_ℚ (minus_one_at j k cs)
    from k [] = refl
    from k (c ∷ cs) = ap (λ z. z ∷ map neg_ℚ (one_at j (k + 1) (length cs))) (one (j == k)) ∙ ap (λ zs. whole_ℚ (cond (j == k) (negsuc 0) (pos 0)) ∷ zs) (from (k + 1) cs)

column_constant : (n p : ℕ) (w : ℤ) → pos 0 ≤ℤ w → is_negative (constant_of (mirror w (variable_row n p))) ≡ false
column_constant n p w h = ap is_negative (less_zero w) ∙ ap (λ z. lt_z z (pos 0)) (num-whole_ℚ w) ∙ not_below w h
  where
    not_below : (w : ℤ) → pos 0 ≤ℤ w → lt_z w (pos 0) ≡ false
    not_below w h = grind (arith, ints)

-- ---- places of origins, where one more stands behind them
pushed_length : (os : List Origin) (o : Origin) → length (os ++ (o ∷ [])) ≡ length os + 1
pushed_length os o = length-append os (o ∷ [])

origin_before : (os : List Origin) (o : Origin) (k : ℕ) → k < length os → origin_at (os ++ (o ∷ [])) k ≡ origin_at os k
origin_before os o k l = get_or_append_left os (o ∷ []) (Kept 0) k l

pub origin_last : (os : List Origin) (o : Origin) → origin_at (os ++ (o ∷ [])) (length os) ≡ o
origin_last os o = get_or-append_seam os o [] (Kept 0)

-- what holds of each place before and of the new one
each_place : (Q : ℕ → Type 0) (os : List Origin) (o : Origin) → ((k : ℕ) → k < length os → Q k) → Q (length os) → (k : ℕ) → k < length (os ++ (o ∷ [])) → Q k
each_place Q os o before last k l =
    let e = pushed_length os o in
    ⊎_elim (λ c. before k c) (λ c. let s : length os ≡ k = omega (arith, e, l, c) in subst Q s last) (cases_lt k (length os))

none_yet : (P : Origin → Type 0) (os : List Origin) (o : Origin) → ((k : ℕ) → k < length os → P (origin_at os k) → ⊥) → (P o → ⊥) → (k : ℕ) → k < length (os ++ (o ∷ [])) → P (origin_at (os ++ (o ∷ [])) k) → ⊥
none_yet P os o h n =
    each_place (λ k. P (origin_at (os ++ (o ∷ [])) k) → ⊥) os o (λ k l p. h k l (subst P (origin_before os o k l) p)) (λ p. n (subst P (origin_last os o) p))

only_before : (P : Origin → Type 0) (os : List Origin) (o : Origin) (k : ℕ) → IsOnlyPlace P os k → (P o → ⊥) → IsOnlyPlace P (os ++ (o ∷ [])) k
only_before P os o k h n = record {
  within = let e = pushed_length os o in let w = h.within in omega (arith, e, w);
  holds = subst P (sym (origin_before os o k h.within)) h.holds;
  only = each_place (λ q. P (origin_at (os ++ (o ∷ [])) q) → q ≡ k) os o (λ q l p. h.only q l (subst P (origin_before os o q l) p)) (λ p. absurd (n (subst P (origin_last os o) p)));
}

only_new : (P : Origin → Type 0) (os : List Origin) (o : Origin) → ((k : ℕ) → k < length os → P (origin_at os k) → ⊥) → P o → IsOnlyPlace P (os ++ (o ∷ [])) (length os)
only_new P os o h p = record {
  within = let e = pushed_length os o in omega (arith, e);
  holds = subst P (sym (origin_last os o)) p;
  only = each_place (λ q. P (origin_at (os ++ (o ∷ [])) q) → q ≡ length os) os o (λ q l r. absurd (h q l (subst P (origin_before os o q l) r))) (λ r. refl);
}

place_before : (P : Origin → Type 0) (os : List Origin) (o : Origin) (x : Option ℕ) → IsPlaceOf P os x → (P o → ⊥) → IsPlaceOf P (os ++ (o ∷ [])) x
place_before P os o None h n = none_yet P os o h n
place_before P os o (Some k) h n = only_before P os o k h n

-- ---- rows of origins, where one more row is kept
origin_more : (n m : ℕ) (o : Origin) → IsOrigin n m o → IsOrigin n (m + 1) o
origin_more n m (Kept r) h = omega (arith, h)
origin_more n m (Mirror r w) h = let l = h.row in record { row = omega (arith, l); width = h.width }
origin_more n m (Column p w) h = h

not_yet_kept : (n m : ℕ) (o : Origin) → IsOrigin n m o → IsKept m o → ⊥
not_yet_kept n m (Kept r) h e = omega (arith, h, e)
not_yet_kept n m (Mirror r w) h e = e
not_yet_kept n m (Column p w) h e = e

row_more : (n : ℕ) (rows : List (List ℚ)) (x : List ℚ) (o : Origin) → IsOrigin n (length rows) o → row_from n (rows ++ (x ∷ [])) o ≡ row_from n rows o
row_more n rows x (Kept r) h = get_or_append_left rows (x ∷ []) [] r h
row_more n rows x (Mirror r w) h = ap (mirror w) (get_or_append_left rows (x ∷ []) [] r h.row)
row_more n rows x (Column p w) h = refl

rows_more : (n : ℕ) (rows : List (List ℚ)) (x : List ℚ) (os : List Origin) → All (IsOrigin n (length rows)) os → rows_from n (rows ++ (x ∷ [])) os ≡ rows_from n rows os
rows_more n rows x [] h = refl
rows_more n rows x (o ∷ os) h =
    ap (λ z. z ∷ rows_from n (rows ++ (x ∷ [])) os) (row_more n rows x o (h 0 (Kept 0) (omega arith))) ∙ ap (λ zs. row_from n rows o ∷ zs) (rows_more n rows x os (λ q d l. h (suc q) d (omega arith)))

-- ---- a row that is kept
pub keep_rows : (n : ℕ) (s t : Draft) (row : MixedRow) → IsDraft n s → t.origins.items ≡ s.origins.items ++ (Kept (length s.rows.items) ∷ []) → t.rows.items ≡ s.rows.items ++ (row ∷ []) →
    draft_rows n t ≡ draft_rows n s ++ (mixed_row row ∷ [])
keep_rows n s t row h oe ke =
    let ls = mixed_rows s.rows.items in
    let x = mixed_row row in
    let m : length ls ≡ length s.rows.items = length-map s.rows.items mixed_row in
    let le : mixed_rows t.rows.items ≡ ls ++ (x ∷ []) = ap mixed_rows ke ∙ map-append mixed_row s.rows.items (row ∷ []) in
    ap (λ (rows : List (List ℚ)). rows_from n rows t.origins.items) le
    ∙ ap (λ (os : List Origin). rows_from n (ls ++ (x ∷ [])) os) oe
    ∙ map-append (row_from n (ls ++ (x ∷ []))) s.origins.items (Kept (length s.rows.items) ∷ [])
    ∙ ap (λ zs. zs ++ (get_or (ls ++ (x ∷ [])) (length s.rows.items) [] ∷ [])) (rows_more n ls x s.origins.items (subst (λ z. All (IsOrigin n z) s.origins.items) (sym m) h.within))
    ∙ ap (λ z. rows_from n ls s.origins.items ++ (z ∷ [])) (ap (λ z. get_or (ls ++ (x ∷ [])) z []) (sym m) ∙ get_or-append_seam ls x [] [])

-- the sign of one more place
below_push : (rows more : List (List ℚ)) (x : List ℚ) (bs made : List Bool) (b : Bool) → more ≡ rows ++ (x ∷ []) → made ≡ bs ++ (b ∷ []) → b ≡ is_negative (constant_of x) → bs ≡ below_of rows → made ≡ below_of more
below_push rows more x bs made b re me be h =
    let f : List ℚ → Bool = λ (us : List ℚ). is_negative (constant_of us) in
    me ∙ ap (λ (cs : List Bool). cs ++ (b ∷ [])) h ∙ ap (λ c. below_of rows ++ (c ∷ [])) be ∙ sym (map-append f rows (x ∷ [])) ∙ ap below_of (sym re)

pub keep_draft : (n : ℕ) (s t : Draft) (row : MixedRow) (b : Bool) → IsDraft n s → IsMixedRow n row → b ≡ is_negative (constant_of (mixed_row row)) → t.below.items ≡ s.below.items ++ (b ∷ []) → t.homes.items ≡ s.homes.items ++ (length s.origins.items ∷ []) → t.origins.items ≡ s.origins.items ++ (Kept (length s.rows.items) ∷ []) →
    t.rows.items ≡ s.rows.items ++ (row ∷ []) → t.columns.items ≡ s.columns.items → IsDraft n t
keep_draft n s t row b h he bv be te oe ke ce =
    let os = s.origins.items in
    let m = length s.rows.items in
    let o = Kept m in
    let km : length t.rows.items ≡ m + 1 = ap (λ (ls : List MixedRow). length ls) ke ∙ length-append s.rows.items (row ∷ []) in
    let om : length t.origins.items ≡ length os + 1 = ap (λ (us : List Origin). length us) oe ∙ pushed_length os o in
    let hm : length t.homes.items ≡ length s.homes.items + 1 = ap (λ (us : List ℕ). length us) te ∙ length-append s.homes.items (length os ∷ []) in
    let f = h.fewer in
    let hc = h.homes_count in
    record {
      rows = subst (λ (ls : List MixedRow). AreMixedRows n ls) (sym ke) (All-push (λ (r : MixedRow). IsMixedRow n r) s.rows.items row h.rows he);
      within =
          subst (λ (us : List Origin). All (IsOrigin n (length t.rows.items)) us) (sym oe)
          (subst (λ z. All (IsOrigin n z) (os ++ (o ∷ []))) (sym km) (All-push (IsOrigin n (m + 1)) os o (λ q d l. origin_more n m (get_or os q d) (h.within q d l)) (omega arith)));
      fewer = omega (arith, km, om, f);
      homes_count = omega (arith, km, hm, hc);
      home = λ r l. homes r (subst (λ z. r < z) km l);
      no_mirror = λ r k l. subst (λ (us : List Origin). (k : ℕ) → k < length us → IsMirrorOf r (origin_at us k) → ⊥) (sym oe) (none_yet (IsMirrorOf r) os o (h.no_mirror r) (λ e. e)) k l;
      columns_count = ap (λ (us : List (Option ℕ)). length us) ce ∙ h.columns_count;
      column = λ p l.
          subst (λ (us : List (Option ℕ)). IsPlaceOf (IsOfColumn p) t.origins.items (get_or us p None)) (sym ce)
          (subst (λ (us : List Origin). IsPlaceOf (IsOfColumn p) us (get_or s.columns.items p None)) (sym oe) (place_before (IsOfColumn p) os o (get_or s.columns.items p None) (h.column p l) (λ e. e)));
      below = below_push (draft_rows n s) (draft_rows n t) (mixed_row row) s.below.items t.below.items b (keep_rows n s t row h oe ke) be bv h.below;
    }
  where
    others : (r m : ℕ) → r < m → m ≡ r → ⊥
    others r m l e = omega arith

    home_at : (r v : ℕ) → get_or t.homes.items r 0 ≡ v → IsOnlyPlace (IsKept r) (s.origins.items ++ (Kept (length s.rows.items) ∷ [])) v → IsOnlyPlace (IsKept r) t.origins.items (get_or t.homes.items r 0)
    home_at r v e p = subst (λ (us : List Origin). IsOnlyPlace (IsKept r) us (get_or t.homes.items r 0)) (sym oe) (subst (λ z. IsOnlyPlace (IsKept r) (s.origins.items ++ (Kept (length s.rows.items) ∷ [])) z) (sym e) p)

    old_home : (r : ℕ) → r < length s.rows.items → IsOnlyPlace (IsKept r) t.origins.items (get_or t.homes.items r 0)
    old_home r c =
        home_at r (get_or s.homes.items r 0) (ap (λ (us : List ℕ). get_or us r 0) te ∙ get_or_append_left s.homes.items (length s.origins.items ∷ []) 0 r (subst (λ z. r < z) (sym h.homes_count) c))
        (only_before (IsKept r) s.origins.items (Kept (length s.rows.items)) (get_or s.homes.items r 0) (h.home r c) (others r (length s.rows.items) c))

    new_home : (r : ℕ) → length s.rows.items ≡ r → IsOnlyPlace (IsKept r) t.origins.items (get_or t.homes.items r 0)
    new_home r e =
        subst (λ z. IsOnlyPlace (IsKept z) t.origins.items (get_or t.homes.items z 0)) e
        (home_at (length s.rows.items) (length s.origins.items)
        (ap (λ (us : List ℕ). get_or us (length s.rows.items) 0) te ∙ ap (λ z. get_or (s.homes.items ++ (length s.origins.items ∷ [])) z 0) (sym h.homes_count) ∙ get_or-append_seam s.homes.items (length s.origins.items) [] 0)
        (only_new (IsKept (length s.rows.items)) s.origins.items (Kept (length s.rows.items)) (λ k l p. not_yet_kept n (length s.rows.items) (origin_at s.origins.items k) (h.within k (Kept 0) l) p) refl))

    homes : (r : ℕ) → r < length s.rows.items + 1 → IsOnlyPlace (IsKept r) t.origins.items (get_or t.homes.items r 0)
    homes r l = ⊎_elim (λ c. old_home r c) (λ c. new_home r (omega (arith, l, c))) (cases_lt r (length s.rows.items))

-- ---- a place whose row is a width less a variable
pub column_rows : (n : ℕ) (s t : Draft) (p : ℕ) (w : ℤ) → t.origins.items ≡ s.origins.items ++ (Column p w ∷ []) → t.rows.items ≡ s.rows.items → draft_rows n t ≡ draft_rows n s ++ (mirror w (variable_row n p) ∷ [])
column_rows n s t p w oe ke =
    ap (λ (us : List MixedRow). rows_from n (mixed_rows us) t.origins.items) ke
    ∙ ap (λ (os : List Origin). rows_from n (mixed_rows s.rows.items) os) oe
    ∙ map-append (row_from n (mixed_rows s.rows.items)) s.origins.items (Column p w ∷ [])

pub column_draft : (n : ℕ) (s t : Draft) (p : ℕ) (w : ℤ) → IsDraft n s → t.below.items ≡ s.below.items ++ (false ∷ []) → IsMirrorWithin n p w → get_or s.columns.items p None ≡ None → t.origins.items ≡ s.origins.items ++ (Column p w ∷ []) → t.rows.items ≡ s.rows.items → t.homes.items ≡ s.homes.items →
    t.columns.items ≡ set s.columns.items p (Some (length s.origins.items)) → IsDraft n t
column_draft n s t p w h be hw free oe ke te ce =
    let os = s.origins.items in
    let o = Column p w in
    let km : length t.rows.items ≡ length s.rows.items = ap (λ (ls : List MixedRow). length ls) ke in
    let om : length t.origins.items ≡ length os + 1 = ap (λ (us : List Origin). length us) oe ∙ pushed_length os o in
    let f = h.fewer in
    record {
      rows = subst (λ (ls : List MixedRow). AreMixedRows n ls) (sym ke) h.rows;
      within =
          subst (λ (us : List Origin). All (IsOrigin n (length t.rows.items)) us) (sym oe)
          (subst (λ z. All (IsOrigin n z) (os ++ (o ∷ []))) (sym km) (All-push (IsOrigin n (length s.rows.items)) os o h.within hw));
      fewer = omega (arith, km, om, f);
      homes_count = ap (λ (us : List ℕ). length us) te ∙ h.homes_count ∙ sym km;
      home = λ r l.
          subst (λ (us : List ℕ). IsOnlyPlace (IsKept r) t.origins.items (get_or us r 0)) (sym te)
          (subst (λ (us : List Origin). IsOnlyPlace (IsKept r) us (get_or s.homes.items r 0)) (sym oe) (only_before (IsKept r) os o (get_or s.homes.items r 0) (h.home r (subst (λ z. r < z) km l)) (λ e. e)));
      no_mirror = λ r k l. subst (λ (us : List Origin). (k : ℕ) → k < length us → IsMirrorOf r (origin_at us k) → ⊥) (sym oe) (none_yet (IsMirrorOf r) os o (h.no_mirror r) (λ e. e)) k l;
      columns_count = ap (λ (us : List (Option ℕ)). length us) ce ∙ length-set s.columns.items p (Some (length os)) ∙ h.columns_count;
      column = λ q l.
          subst (λ (us : List (Option ℕ)). IsPlaceOf (IsOfColumn q) t.origins.items (get_or us q None)) (sym ce)
          (subst (λ (us : List Origin). IsPlaceOf (IsOfColumn q) us (get_or (set s.columns.items p (Some (length os))) q None)) (sym oe) (⊎_elim (λ e. own q e l) (λ d. other q d l) (cases_eq p q)));
      below = below_push (draft_rows n s) (draft_rows n t) (mirror w (variable_row n p)) s.below.items t.below.items false (column_rows n s t p w oe ke) be (sym (column_constant n p w hw.width.least)) h.below;
    }
  where
    own : (q : ℕ) → p ≡ q → q < n → IsPlaceOf (IsOfColumn q) (s.origins.items ++ (Column p w ∷ [])) (get_or (set s.columns.items p (Some (length s.origins.items))) q None)
    own q e l =
        let g : get_or (set s.columns.items p (Some (length s.origins.items))) q None ≡ Some (length s.origins.items) =
        ap (λ z. get_or (set s.columns.items z (Some (length s.origins.items))) q None) e ∙ get_or-set_same s.columns.items q (Some (length s.origins.items)) None (subst (λ z. q < z) (sym h.columns_count) l) in
        let f : get_or s.columns.items q None ≡ None = ap (λ z. get_or s.columns.items z None) (sym e) ∙ free in
        subst (λ (x : Option ℕ). IsPlaceOf (IsOfColumn q) (s.origins.items ++ (Column p w ∷ [])) x) (sym g)
        (only_new (IsOfColumn q) s.origins.items (Column p w) (subst (λ (x : Option ℕ). IsPlaceOf (IsOfColumn q) s.origins.items x) f (h.column q l)) e)

    other : (q : ℕ) → (p ≡ q → ⊥) → q < n → IsPlaceOf (IsOfColumn q) (s.origins.items ++ (Column p w ∷ [])) (get_or (set s.columns.items p (Some (length s.origins.items))) q None)
    other q d l =
        subst (λ (x : Option ℕ). IsPlaceOf (IsOfColumn q) (s.origins.items ++ (Column p w ∷ [])) x) (sym (get_or-set_other s.columns.items p q (Some (length s.origins.items)) None (λ e. d (sym e))))
        (place_before (IsOfColumn q) s.origins.items (Column p w) (get_or s.columns.items q None) (h.column q l) d)

-- ---- before the first place
pub no_draft : (n : ℕ) (s : Draft) → s.below.items ≡ [] → s.rows.items ≡ [] → s.origins.items ≡ [] → s.homes.items ≡ [] → s.columns.items ≡ replicate n None → IsDraft n s
no_draft n s be ke oe he ce = record {
  rows = λ k d l. absurd (omega (arith, ap length ke, l));
  within = λ k d l. absurd (omega (arith, ap length oe, l));
  fewer = omega (arith, ap length ke);
  homes_count = ap length he ∙ sym (ap length ke);
  home = λ r l. absurd (omega (arith, ap length ke, l));
  no_mirror = λ r k l m. absurd (omega (arith, ap length oe, l));
  columns_count = ap length ce ∙ length-replicate n None;
  column = λ p l. subst (λ (x : Option ℕ). IsPlaceOf (IsOfColumn p) s.origins.items x) (sym (ap (λ (xs : List (Option ℕ)). get_or xs p None) ce ∙ get_or-replicate n p None None l)) (λ k m e. absurd (omega (arith, ap length oe, m)));
  below = be ∙ ap (λ (us : List Origin). below_of (rows_from n (mixed_rows s.rows.items) us)) (sym oe);
}

pub no_columns : (n p : ℕ) (xs : List (Option ℕ)) → xs ≡ replicate n None → get_or xs p None ≡ None
no_columns n p xs e = ap (λ (us : List (Option ℕ)). get_or us p None) e ∙ nothing n p
  where
    nothing : (n p : ℕ) → get_or {A = Option ℕ} (replicate n None) p None ≡ None
    nothing zero p = refl
    nothing (suc n) zero = refl
    nothing (suc n) (suc p) = nothing n p

pub if_ok : {A E : Type 0} → (r : Result A E) (P Q : Type 0) → (P → Q) → IfOk r (λ _. P) → IfOk r (λ _. Q)
if_ok (Ok x) P Q f h = f h
if_ok (Err e) P Q f h = h

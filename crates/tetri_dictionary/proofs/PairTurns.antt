-- A kept row and its mirror change places.
use Rattle.std.proofs.Common.{◌≡◌, ℕ, ◌+◌, ◌-◌, ◌<◌, refl, sym, ap, ◌∙◌, subst, arith, List, [], ◌∷◌, length, get_or, set, map, Option, Some, None, Bool, ⊎_elim}
use Prim.Native.Nat.{suc, ◌/◌}
use Rattle.std.specs.Global.{Vec}
use Rattle.std.specs.Prelude.{All}
use Rattle.std.proofs.lemmas.Bool.{cases_eq}
use Rattle.std.proofs.lemmas.List.{get_or-map, get_or_default, get_or-set_same, get_or-set_other, length-map, length-set, map-set, same_lists}
use Rattle.std.proofs.lemmas.List.Elements.{All-map}
use lib.IntN.{ℤ}
use Rattle.tetri_algebra.specs.Rational.{ℚ}
use Rattle.tetri_algebra.specs.RationalRing.{neg_ℚ, zero_ℚ}
use Rattle.tetri_dictionary.specs.declared.origins.Origin.{Origin}
use Rattle.tetri_dictionary.specs.declared.origins.Origin.TheVariants.{Kept, Mirror, Column}
use Rattle.tetri_dictionary.specs.Below.{below_of}
use Rattle.tetri_dictionary.specs.Holders.{number_in, AreHolders}
use Rattle.tetri_dictionary.specs.Mirrors.{mirror, row_from, rows_from, IsWidth, IsOrigin}
use Rattle.tetri_dictionary.specs.PairPivots.{turned}
use Rattle.tetri_dictionary.specs.Pairs.{origin_at, IsKept, IsMirrorOf, IsOfColumn, IsOnlyPlace, IsPlaceOf, AreOrigins}
use Rattle.tetri_dictionary.specs.Tables.{constant_of, is_negative}
use Rattle.tetri_dictionary.proofs.MirrorRows.{coefficient-mirror, mirror-mirror, neg_zero}
use Rattle.tetri_dictionary.proofs.PairOrigins.{own_test, other_test, at_mapped, only_mapped, place_mapped}

-- ---- one origin
kept_turned : (r : ℕ) (w : ℤ) (q : ℕ) (o : Origin) → (q ≡ r → ⊥) → IsKept q (turned r w o) → IsKept q o
kept_turned r w q (Kept s) n h =
    ⊎_elim (λ (e : s ≡ r). absurd (subst (IsKept q) (own_test s r (Mirror r w) (Kept s) e) h)) (λ (d : s ≡ r → ⊥). subst (IsKept q) (other_test s r (Mirror r w) (Kept s) d) h) (cases_eq s r)
kept_turned r w q (Mirror s v) n h =
    ⊎_elim (λ (e : s ≡ r). absurd (n (sym (subst (IsKept q) (own_test s r (Kept r) (Mirror s v) e) h)))) (λ (d : s ≡ r → ⊥). subst (IsKept q) (other_test s r (Kept r) (Mirror s v) d) h) (cases_eq s r)
kept_turned r w q (Column p v) n h = h

turned_kept : (r : ℕ) (w : ℤ) (q : ℕ) (o : Origin) → (q ≡ r → ⊥) → IsKept q o → IsKept q (turned r w o)
turned_kept r w q (Kept s) n h = subst (IsKept q) (sym (other_test s r (Mirror r w) (Kept s) (λ (e : s ≡ r). n (sym h ∙ e)))) h
turned_kept r w q (Mirror s v) n h = absurd h
turned_kept r w q (Column p v) n h = h

own_kept_turned : (r : ℕ) (w : ℤ) (o : Origin) → IsKept r (turned r w o) → IsMirrorOf r o
own_kept_turned r w (Kept s) h =
    ⊎_elim (λ (e : s ≡ r). absurd (subst (IsKept r) (own_test s r (Mirror r w) (Kept s) e) h)) (λ (d : s ≡ r → ⊥). absurd (d (subst (IsKept r) (other_test s r (Mirror r w) (Kept s) d) h))) (cases_eq s r)
own_kept_turned r w (Mirror s v) h =
    ⊎_elim (λ (e : s ≡ r). e) (λ (d : s ≡ r → ⊥). absurd (subst (IsKept r) (other_test s r (Kept r) (Mirror s v) d) h)) (cases_eq s r)
own_kept_turned r w (Column p v) h = h

turned_own_kept : (r : ℕ) (w : ℤ) (o : Origin) → IsMirrorOf r o → IsKept r (turned r w o)
turned_own_kept r w (Kept s) h = absurd h
turned_own_kept r w (Mirror s v) h = subst (IsKept r) (sym (own_test s r (Kept r) (Mirror s v) h)) refl
turned_own_kept r w (Column p v) h = h

mirror_turned : (r : ℕ) (w : ℤ) (q : ℕ) (o : Origin) → (q ≡ r → ⊥) → IsMirrorOf q (turned r w o) → IsMirrorOf q o
mirror_turned r w q (Kept s) n h =
    ⊎_elim (λ (e : s ≡ r). absurd (n (sym (subst (IsMirrorOf q) (own_test s r (Mirror r w) (Kept s) e) h)))) (λ (d : s ≡ r → ⊥). subst (IsMirrorOf q) (other_test s r (Mirror r w) (Kept s) d) h) (cases_eq s r)
mirror_turned r w q (Mirror s v) n h =
    ⊎_elim (λ (e : s ≡ r). absurd (subst (IsMirrorOf q) (own_test s r (Kept r) (Mirror s v) e) h)) (λ (d : s ≡ r → ⊥). subst (IsMirrorOf q) (other_test s r (Kept r) (Mirror s v) d) h) (cases_eq s r)
mirror_turned r w q (Column p v) n h = h

turned_mirror : (r : ℕ) (w : ℤ) (q : ℕ) (o : Origin) → (q ≡ r → ⊥) → IsMirrorOf q o → IsMirrorOf q (turned r w o)
turned_mirror r w q (Kept s) n h = absurd h
turned_mirror r w q (Mirror s v) n h = subst (IsMirrorOf q) (sym (other_test s r (Kept r) (Mirror s v) (λ (e : s ≡ r). n (sym h ∙ e)))) h
turned_mirror r w q (Column p v) n h = h

own_mirror_turned : (r : ℕ) (w : ℤ) (o : Origin) → IsMirrorOf r (turned r w o) → IsKept r o
own_mirror_turned r w (Kept s) h =
    ⊎_elim (λ (e : s ≡ r). e) (λ (d : s ≡ r → ⊥). absurd (subst (IsMirrorOf r) (other_test s r (Mirror r w) (Kept s) d) h)) (cases_eq s r)
own_mirror_turned r w (Mirror s v) h =
    ⊎_elim (λ (e : s ≡ r). absurd (subst (IsMirrorOf r) (own_test s r (Kept r) (Mirror s v) e) h)) (λ (d : s ≡ r → ⊥). absurd (d (subst (IsMirrorOf r) (other_test s r (Kept r) (Mirror s v) d) h))) (cases_eq s r)
own_mirror_turned r w (Column p v) h = h

turned_own_mirror : (r : ℕ) (w : ℤ) (o : Origin) → IsKept r o → IsMirrorOf r (turned r w o)
turned_own_mirror r w (Kept s) h = subst (IsMirrorOf r) (sym (own_test s r (Mirror r w) (Kept s) h)) refl
turned_own_mirror r w (Mirror s v) h = absurd h
turned_own_mirror r w (Column p v) h = h

column_turned : (r : ℕ) (w : ℤ) (p : ℕ) (o : Origin) → IsOfColumn p (turned r w o) → IsOfColumn p o
column_turned r w p (Kept s) h =
    ⊎_elim (λ (e : s ≡ r). subst (IsOfColumn p) (own_test s r (Mirror r w) (Kept s) e) h) (λ (d : s ≡ r → ⊥). subst (IsOfColumn p) (other_test s r (Mirror r w) (Kept s) d) h) (cases_eq s r)
column_turned r w p (Mirror s v) h =
    ⊎_elim (λ (e : s ≡ r). subst (IsOfColumn p) (own_test s r (Kept r) (Mirror s v) e) h) (λ (d : s ≡ r → ⊥). subst (IsOfColumn p) (other_test s r (Kept r) (Mirror s v) d) h) (cases_eq s r)
column_turned r w p (Column q v) h = h

turned_column : (r : ℕ) (w : ℤ) (p : ℕ) (o : Origin) → IsOfColumn p o → IsOfColumn p (turned r w o)
turned_column r w p (Kept s) h = absurd h
turned_column r w p (Mirror s v) h = absurd h
turned_column r w p (Column q v) h = h

turned_within : (n m r : ℕ) (w : ℤ) (o : Origin) → r < m → IsWidth w → IsOrigin n m o → IsOrigin n m (turned r w o)
turned_within n m r w (Kept s) l iw h =
    ⊎_elim (λ (e : s ≡ r). subst (IsOrigin n m) (sym (own_test s r (Mirror r w) (Kept s) e)) (record { row = l; width = iw })) (λ (d : s ≡ r → ⊥). subst (IsOrigin n m) (sym (other_test s r (Mirror r w) (Kept s) d)) h) (cases_eq s r)
turned_within n m r w (Mirror s v) l iw h =
    ⊎_elim (λ (e : s ≡ r). subst (IsOrigin n m) (sym (own_test s r (Kept r) (Mirror s v) e)) l) (λ (d : s ≡ r → ⊥). subst (IsOrigin n m) (sym (other_test s r (Kept r) (Mirror s v) d)) h) (cases_eq s r)
turned_within n m r w (Column p v) l iw h = h

turned_other : (r : ℕ) (w : ℤ) (o : Origin) → (IsKept r o → ⊥) → (IsMirrorOf r o → ⊥) → turned r w o ≡ o
turned_other r w (Kept s) k n = other_test s r (Mirror r w) (Kept s) k
turned_other r w (Mirror s v) k n = other_test s r (Kept r) (Mirror s v) n
turned_other r w (Column p v) k n = refl

is_kept : (r : ℕ) (o : Origin) → IsKept r o → o ≡ Kept r
is_kept r (Kept s) h = ap Kept h
is_kept r (Mirror s v) h = absurd h
is_kept r (Column p v) h = absurd h

is_mirror : (r : ℕ) (w : ℤ) (o : Origin) → o ≡ Mirror r w → IsMirrorOf r o
is_mirror r w o e = subst (IsMirrorOf r) (sym e) refl

-- ---- the only mirror
pub mirror_place : (n m c r i : ℕ) (w : ℤ) (os : List Origin) (homes : List ℕ) (mirrors columns : List (Option ℕ)) → AreOrigins n m c os homes mirrors columns → i < length os → origin_at os i ≡ Mirror r w → IsOnlyPlace (IsMirrorOf r) os i
mirror_place n m c r i w os homes mirrors columns h l e =
    by_place (get_or mirrors r None) (h.mirror r (subst (IsOrigin n m) e (h.within i (Kept 0) l)).row)
  where
    by_place : (o : Option ℕ) → IsPlaceOf (IsMirrorOf r) os o → IsOnlyPlace (IsMirrorOf r) os i
    by_place None none = absurd (none i l (is_mirror r w (origin_at os i) e))
    by_place (Some k) some = subst (λ z. IsOnlyPlace (IsMirrorOf r) os z) (sym (some.only i l (is_mirror r w (origin_at os i) e))) some

pub not_last : (n m c r i : ℕ) (w : ℤ) (os : List Origin) (homes : List ℕ) (mirrors columns : List (Option ℕ)) → AreOrigins n m c os homes mirrors columns → i < length os → origin_at os i ≡ Mirror r w → r ≡ m - 1 → ⊥
not_last n m c r i w os homes mirrors columns h l e s =
    let lr = (subst (IsOrigin n m) e (h.within i (Kept 0) l)).row in
    subst (λ o. IsPlaceOf (IsMirrorOf r) os o) (ap (λ z. get_or mirrors z None) s ∙ h.alone) (h.mirror r lr) i l (is_mirror r w (origin_at os i) e)

-- ---- all origins
pub turned_origins : (n m c r i : ℕ) (w : ℤ) (os : List Origin) (homes : List ℕ) (mirrors columns : List (Option ℕ)) → AreOrigins n m c os homes mirrors columns → i < length os → origin_at os i ≡ Mirror r w →
    AreOrigins n m c (map (turned r w) os) (set homes r i) (set mirrors r (Some (get_or homes r 0))) columns
turned_origins n m c r i w os homes mirrors columns h l e =
    let f = turned r w in
    let within = subst (IsOrigin n m) e (h.within i (Kept 0) l) in
    let lr = within.row in
    let last = not_last n m c r i w os homes mirrors columns h l e in
    let lh : r < length homes = subst (λ z. r < z) (sym h.homes_count) lr in
    let lm : r < length mirrors = subst (λ z. r < z) (sym h.mirrors_count) lr in
    let k = h.count in
    let oc : c < length os = omega arith in
    record {
      count = length-map os f ∙ h.count;
      within = All-map (IsOrigin n m) f os (λ q d b. turned_within n m r w (get_or os q d) lr within.width (h.within q d b));
      objective = at_mapped f os c oc ∙ ap f h.objective ∙ other_test (m - 1) r (Mirror r w) (Kept (m - 1)) (λ (s : m - 1 ≡ r). last (sym s));
      homes_count = length-set homes r i ∙ h.homes_count;
      home = λ q b.
          ⊎_elim
          (λ (s : q ≡ r).
          subst (λ z. IsOnlyPlace (IsKept q) (map f os) z) (sym (ap (λ z. get_or (set homes r i) z 0) s ∙ get_or-set_same homes r i 0 lh))
          (subst (λ z. IsOnlyPlace (IsKept z) (map f os) i) (sym s) (only_mapped (IsKept r) (IsMirrorOf r) f os i (own_kept_turned r w) (turned_own_kept r w) (mirror_place n m c r i w os homes mirrors columns h l e))))
          (λ (d : q ≡ r → ⊥).
          subst (λ z. IsOnlyPlace (IsKept q) (map f os) z) (sym (get_or-set_other homes r q i 0 d))
          (only_mapped (IsKept q) (IsKept q) f os (get_or homes q 0) (λ o. kept_turned r w q o d) (λ o. turned_kept r w q o d) (h.home q b)))
          (cases_eq q r);
      mirrors_count = length-set mirrors r (Some (get_or homes r 0)) ∙ h.mirrors_count;
      mirror = λ q b.
          ⊎_elim
          (λ (s : q ≡ r).
          subst (λ z. IsPlaceOf (IsMirrorOf q) (map f os) z) (sym (ap (λ z. get_or (set mirrors r (Some (get_or homes r 0))) z None) s ∙ get_or-set_same mirrors r (Some (get_or homes r 0)) None lm))
          (subst (λ z. IsOnlyPlace (IsMirrorOf z) (map f os) (get_or homes r 0)) (sym s) (only_mapped (IsMirrorOf r) (IsKept r) f os (get_or homes r 0) (own_mirror_turned r w) (turned_own_mirror r w) (h.home r lr))))
          (λ (d : q ≡ r → ⊥).
          subst (λ z. IsPlaceOf (IsMirrorOf q) (map f os) z) (sym (get_or-set_other mirrors r q (Some (get_or homes r 0)) None d))
          (place_mapped (IsMirrorOf q) (IsMirrorOf q) f os (get_or mirrors q None) (λ o. mirror_turned r w q o d) (λ o. turned_mirror r w q o d) (h.mirror q b)))
          (cases_eq q r);
      alone = get_or-set_other mirrors r (m - 1) (Some (get_or homes r 0)) None (λ (s : m - 1 ≡ r). last (sym s)) ∙ h.alone;
      columns_count = h.columns_count;
      column = λ p b. place_mapped (IsOfColumn p) (IsOfColumn p) f os (get_or columns p None) (column_turned r w p) (turned_column r w p) (h.column p b);
    }

-- as the two places are written
pub turned_set : (n m c r i : ℕ) (w : ℤ) (os : List Origin) (homes : List ℕ) (mirrors columns : List (Option ℕ)) → AreOrigins n m c os homes mirrors columns → i < length os → origin_at os i ≡ Mirror r w →
    set (set os (get_or homes r 0) (Mirror r w)) i (Kept r) ≡ map (turned r w) os
turned_set n m c r i w os homes mirrors columns h l e =
    let k = get_or homes r 0 in
    let lr = (subst (IsOrigin n m) e (h.within i (Kept 0) l)).row in
    let own = h.home r lr in
    let mine = mirror_place n m c r i w os homes mirrors columns h l e in
    let first = set os k (Mirror r w) in
    let lf : length first ≡ length os = length-set os k (Mirror r w) in
    same_lists (set first i (Kept r)) (map (turned r w) os) (length-set first i (Kept r) ∙ lf ∙ sym (length-map os (turned r w)))
    (λ q d b.
    let b' : q < length os = subst (λ z. q < z) (length-set first i (Kept r) ∙ lf) b in
    let x = get_or os q d in
    let xe : x ≡ origin_at os q = get_or_default os q d (Kept 0) b' in
    let right : get_or (map (turned r w) os) q d ≡ turned r w x = get_or-map (turned r w) os q d d b' in
    ⊎_elim
    (λ (s : q ≡ i).
    ap (λ z. get_or (set first i (Kept r)) z d) s ∙ get_or-set_same first i (Kept r) d (subst (λ z. i < z) (sym lf) l)
    ∙ sym (right ∙ ap (turned r w) (xe ∙ ap (origin_at os) s ∙ e) ∙ own_test r r (Kept r) (Mirror r w) refl))
    (λ (t : q ≡ i → ⊥).
    get_or-set_other first i q (Kept r) d t
    ∙ ⊎_elim
    (λ (s : q ≡ k).
    ap (λ z. get_or first z d) s ∙ get_or-set_same os k (Mirror r w) d own.within
    ∙ sym (right ∙ ap (turned r w) (xe ∙ ap (origin_at os) s ∙ is_kept r (origin_at os k) own.holds) ∙ own_test r r (Mirror r w) (Kept r) refl))
    (λ (u : q ≡ k → ⊥).
    get_or-set_other os k q (Mirror r w) d u
    ∙ sym (right ∙ turned_other r w x (λ z. u (own.only q b' (subst (IsKept r) xe z))) (λ z. t (mine.only q b' (subst (IsMirrorOf r) xe z)))))
    (cases_eq q k))
    (cases_eq q i))

-- ---- the table
same_mapped : {B : Type 0} → (g h : Origin → B) (f : Origin → Origin) (os : List Origin) → ((q : ℕ) (d : Origin) → q < length os → g (f (get_or os q d)) ≡ h (get_or os q d)) → map g (map f os) ≡ map h os
same_mapped g h f [] t = refl
same_mapped g h f (o ∷ os) t = ap (λ x. x ∷ map g (map f os)) (t 0 o (omega arith)) ∙ ap (λ xs. h o ∷ xs) (same_mapped g h f os (λ q d l. t (suc q) d (omega arith)))

turned_row : (n r : ℕ) (w : ℤ) (rows : List (List ℚ)) (o : Origin) → r < length rows → ((v : ℤ) → o ≡ Mirror r v → v ≡ w) → row_from n (set rows r (mirror w (get_or rows r []))) (turned r w o) ≡ row_from n rows o
turned_row n r w rows (Kept s) l same =
    let new = set rows r (mirror w (get_or rows r [])) in
    let own : get_or new r [] ≡ mirror w (get_or rows r []) = get_or-set_same rows r (mirror w (get_or rows r [])) [] l in
    ⊎_elim
    (λ (e : s ≡ r). ap (row_from n new) (own_test s r (Mirror r w) (Kept s) e) ∙ ap (mirror w) own ∙ mirror-mirror w (get_or rows r []) ∙ ap (λ z. get_or rows z []) (sym e))
    (λ (d : s ≡ r → ⊥). ap (row_from n new) (other_test s r (Mirror r w) (Kept s) d) ∙ get_or-set_other rows r s (mirror w (get_or rows r [])) [] d)
    (cases_eq s r)
turned_row n r w rows (Mirror s v) l same =
    let new = set rows r (mirror w (get_or rows r [])) in
    let own : get_or new r [] ≡ mirror w (get_or rows r []) = get_or-set_same rows r (mirror w (get_or rows r [])) [] l in
    ⊎_elim
    (λ (e : s ≡ r). ap (row_from n new) (own_test s r (Kept r) (Mirror s v) e) ∙ own ∙ ap (λ z. mirror z (get_or rows r [])) (sym (same v (ap (λ z. Mirror z v) e))) ∙ ap (λ z. mirror v (get_or rows z [])) (sym e))
    (λ (d : s ≡ r → ⊥). ap (row_from n new) (other_test s r (Kept r) (Mirror s v) d) ∙ ap (mirror v) (get_or-set_other rows r s (mirror w (get_or rows r [])) [] d))
    (cases_eq s r)
turned_row n r w rows (Column p v) l same = refl

pub turned_rows : (n m c r i : ℕ) (w : ℤ) (rows : List (List ℚ)) (os : List Origin) (homes : List ℕ) (mirrors columns : List (Option ℕ)) → AreOrigins n m c os homes mirrors columns → length rows ≡ m → i < length os → origin_at os i ≡ Mirror r w →
    rows_from n (set rows r (mirror w (get_or rows r []))) (map (turned r w) os) ≡ rows_from n rows os
turned_rows n m c r i w rows os homes mirrors columns h lm l e =
    let lr : r < length rows = subst (λ z. r < z) (sym lm) (subst (IsOrigin n m) e (h.within i (Kept 0) l)).row in
    let mine = mirror_place n m c r i w os homes mirrors columns h l e in
    same_mapped (row_from n (set rows r (mirror w (get_or rows r [])))) (row_from n rows) (turned r w) os
    (λ q d b. turned_row n r w rows (get_or os q d) lr
    (λ v s.
    let xe : get_or os q d ≡ origin_at os q = get_or_default os q d (Kept 0) b in
    let qi : q ≡ i = mine.only q b (is_mirror r v (origin_at os q) (sym xe ∙ s)) in
    same_width v (sym s ∙ xe ∙ ap (origin_at os) qi ∙ e)))
  where
    same_width : (v : ℤ) → Mirror r v ≡ Mirror r w → v ≡ w
    same_width v s = cc

-- ---- what is told of the kept rows
pub turned_holders : (n r : ℕ) (w : ℤ) (hs : List (Vec ℕ)) (rows : List (List ℚ)) → AreHolders n hs rows → r < length rows → AreHolders n hs (set rows r (mirror w (get_or rows r [])))
turned_holders n r w hs rows h l =
    let x = mirror w (get_or rows r []) in
    record {
      columns = h.columns;
      words = subst (λ z. All (λ (v : Vec ℕ). length v.items ≡ z / 64 + 1) hs) (sym (length-set rows r x)) h.words;
      hold = λ j b k z.
          ⊎_elim
          (λ (e : k ≡ r). ap (λ y. number_in (set rows r x) y j) e ∙ ap (λ us. get_or us (suc j) zero_ℚ) (get_or-set_same rows r x [] l) ∙ coefficient-mirror w (get_or rows r []) j ∙ ap neg_ℚ (ap (λ y. number_in rows y j) (sym e) ∙ h.hold j b k z) ∙ neg_zero)
          (λ (d : k ≡ r → ⊥). ap (λ us. get_or us (suc j) zero_ℚ) (get_or-set_other rows r k x [] d) ∙ h.hold j b k z)
          (cases_eq k r);
    }

pub turned_below : (n r i : ℕ) (w : ℤ) (rows : List (List ℚ)) (os : List Origin) (row_below below : List Bool) (b : Bool) → row_below ≡ below_of rows → below ≡ below_of (rows_from n rows os) → i < length os → origin_at os i ≡ Mirror r w → b ≡ get_or below i b →
    set row_below r b ≡ below_of (set rows r (mirror w (get_or rows r [])))
turned_below n r i w rows os row_below below b re be l e ve =
    let f : List ℚ → Bool = λ (us : List ℚ). is_negative (constant_of us) in
    let m : i < length (rows_from n rows os) = subst (λ z. i < z) (sym (length-map os (row_from n rows))) l in
    let s : b ≡ f (mirror w (get_or rows r [])) =
    ve ∙ ap (λ (us : List Bool). get_or us i b) be ∙ get_or-map f (rows_from n rows os) i [] b m ∙ ap f (get_or-map (row_from n rows) os i (Kept 0) [] l ∙ ap (row_from n rows) e) in
    ap (λ (us : List Bool). set us r b) re ∙ ap (λ z. set (below_of rows) r z) s ∙ sym (map-set f rows r (mirror w (get_or rows r [])))

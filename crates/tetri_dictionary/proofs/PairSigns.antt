-- The signs of the constants of kept rows and of their mirrors, one row after the other.
use Rattle.std.proofs.Common.{◌≡◌, ℕ, ◌+◌, ◌<◌, ◌≤◌, refl, sym, ap, ◌∙◌, subst, arith, List, [], ◌∷◌, length, get_or, set, map, Option, Some, None, Bool, false, MatchOption, ◌⊎◌, inl, inr, ⊎_elim}
use Rattle.std.specs.Prelude.{All}
use Rattle.std.proofs.lemmas.Bool.{cases_eq, cases_lt}
use Rattle.std.proofs.lemmas.Int.{ints}
use Rattle.std.proofs.lemmas.List.{get_or-map, get_or_default, get_or-set_same, get_or-set_other, length-map, length-set, same_lists}
use lib.IntN.{ℤ, pos}
use lib.Signed.{lt_z}
use Rattle.std.specs.Prelude.{◌≤ℤ◌}
use Rattle.tetri_algebra.specs.Rational.{ℚ, whole_ℚ}
use Rattle.tetri_algebra.specs.RationalRing.{ℚ_ring, num-whole_ℚ}
use Rattle.tetri_algebra.specs.RingSolver.{var, nil, minus, ring, ◌⊕◌}
use Rattle.tetri_dictionary.specs.declared.mixed.MixedRow.{MixedRow}
use Rattle.tetri_dictionary.specs.declared.origins.Origin.{Origin}
use Rattle.tetri_dictionary.specs.declared.origins.Origin.TheVariants.{Kept, Mirror, Column}
use Rattle.tetri_dictionary.specs.Below.{below_of}
use Rattle.tetri_dictionary.specs.Holders.{bit}
use Rattle.tetri_dictionary.specs.Mirrors.{mirror, variable_row, row_from, rows_from, IsWidth, IsOrigin}
use Rattle.tetri_dictionary.specs.Mixed.{mixed_row, mixed_rows}
use Rattle.tetri_dictionary.specs.PairPivots.{exchanged, width_of, IsSettled, AreTold, AreHomes}
use Rattle.tetri_dictionary.specs.Pairs.{IsWholeRow, origin_at, IsKept, IsMirrorOf, IsOnlyPlace, IsPlaceOf, AreOrigins}
use Rattle.tetri_dictionary.specs.Tables.{constant_of, is_negative}
use Rattle.tetri_dictionary.proofs.PairOrigins.{own_test, other_test, at_mapped}

-- ---- one more row
earlier : (words : List ℕ) (from k s : ℕ) → ((q : ℕ) → from ≤ q → q < k → bit words q ≡ 0) → (s ≡ k → ⊥) → (s < k + 1) ⊎ (bit words s ≡ 0) → (s < from) ⊎ (bit words s ≡ 0)
earlier words from k s between d t =
    ⊎_elim (λ (l : s < k + 1). ⊎_elim (λ (m : s < from). inl m) (λ (m : from ≤ s). inr (between s m (below_last l))) (cases_lt s from)) (λ b. inr b) t
  where
    below_last : s < k + 1 → s < k
    below_last l = ⊎_elim (λ (c : s < k). c) (λ (c : k ≤ s). absurd (d (omega arith))) (cases_lt s k)

settled_earlier : (words : List ℕ) (from k : ℕ) (o : Origin) → ((q : ℕ) → from ≤ q → q < k → bit words q ≡ 0) → (IsKept k o → ⊥) → (IsMirrorOf k o → ⊥) → IsSettled words (k + 1) o → IsSettled words from o
settled_earlier words from k (Kept s) between d n t = earlier words from k s between d t
settled_earlier words from k (Mirror s w) between d n t = earlier words from k s between n t
settled_earlier words from k (Column p w) between d n t = tt

kept_row : (n k : ℕ) (rows : List (List ℚ)) (o : Origin) → IsKept k o → get_or rows k [] ≡ row_from n rows o
kept_row n k rows (Kept s) h = ap (λ z. get_or rows z []) (sym h)
kept_row n k rows (Mirror s w) h = absurd h
kept_row n k rows (Column p w) h = absurd h

mirror_row : (n k : ℕ) (rows : List (List ℚ)) (o : Origin) → IsMirrorOf k o → mirror (width_of o) (get_or rows k []) ≡ row_from n rows o
mirror_row n k rows (Kept s) h = absurd h
mirror_row n k rows (Mirror s w) h = ap (λ z. mirror w (get_or rows z [])) (sym h)
mirror_row n k rows (Column p w) h = absurd h

not_both : (k : ℕ) (o : Origin) → IsKept k o → IsMirrorOf k o → ⊥
not_both k (Kept s) h g = g
not_both k (Mirror s w) h g = h
not_both k (Column p w) h g = h

pub told_row : (n m : ℕ) (rows : List (List ℚ)) (os : List Origin) (homes : List ℕ) (mirrors : List (Option ℕ)) (words : List ℕ) (from k : ℕ) (below after : List Bool) (sign : Bool) (row : List ℚ) → AreHomes n m os homes mirrors → k < m → from ≤ k →
    ((q : ℕ) → from ≤ q → q < k → bit words q ≡ 0) → length below ≡ length os → row ≡ get_or rows k [] → sign ≡ is_negative (constant_of (get_or rows k [])) →
    MatchOption (get_or mirrors k None) (after ≡ set below (get_or homes k 0) sign) (λ p. after ≡ set (set below (get_or homes k 0) sign) p (is_negative (constant_of (mirror (width_of (origin_at os p)) row)))) →
    AreTold n rows os words from below → AreTold n rows os words (k + 1) after
told_row n m rows os homes mirrors words from k below after sign row h lk fk between count re se we told p l t =
    by_place (get_or mirrors k None) (h.mirror k lk) we
  where
    own : IsOnlyPlace (IsKept k) os (get_or homes k 0)
    own = h.home k lk

    at_home : length below ≡ length os → get_or (set below (get_or homes k 0) sign) (get_or homes k 0) false ≡ sign
    at_home e = get_or-set_same below (get_or homes k 0) sign false (subst (λ z. get_or homes k 0 < z) (sym e) own.within)

    sign_home : p ≡ get_or homes k 0 → sign ≡ is_negative (constant_of (row_from n rows (origin_at os p)))
    sign_home e = se ∙ ap (λ us. is_negative (constant_of us)) (kept_row n k rows (origin_at os p) (subst (λ z. IsKept k (origin_at os z)) (sym e) own.holds))

    elsewhere : (p ≡ get_or homes k 0 → ⊥) → (IsMirrorOf k (origin_at os p) → ⊥) → get_or below p false ≡ is_negative (constant_of (row_from n rows (origin_at os p)))
    elsewhere d e = told p l (settled_earlier words from k (origin_at os p) between (λ z. d (own.only p l z)) e t)

    by_place : (o : Option ℕ) → IsPlaceOf (IsMirrorOf k) os o →
        MatchOption o (after ≡ set below (get_or homes k 0) sign) (λ q. after ≡ set (set below (get_or homes k 0) sign) q (is_negative (constant_of (mirror (width_of (origin_at os q)) row)))) →
        get_or after p false ≡ is_negative (constant_of (row_from n rows (origin_at os p)))
    by_place None none e =
        ap (λ (us : List Bool). get_or us p false) e
        ∙ ⊎_elim
        (λ (s : p ≡ get_or homes k 0). ap (λ z. get_or (set below (get_or homes k 0) sign) z false) s ∙ at_home count ∙ sign_home s)
        (λ (d : p ≡ get_or homes k 0 → ⊥). get_or-set_other below (get_or homes k 0) p sign false d ∙ elsewhere d (none p l))
        (cases_eq p (get_or homes k 0))
    by_place (Some q) some e =
        let b = is_negative (constant_of (mirror (width_of (origin_at os q)) row)) in
        let first = set below (get_or homes k 0) sign in
        ap (λ (us : List Bool). get_or us p false) e
        ∙ ⊎_elim
        (λ (s : p ≡ q).
        ap (λ z. get_or (set first q b) z false) s ∙ get_or-set_same first q b false (subst (λ z. q < z) (sym (length-set below (get_or homes k 0) sign ∙ count)) some.within)
        ∙ ap (λ us. is_negative (constant_of (mirror (width_of (origin_at os q)) us))) re
        ∙ ap (λ us. is_negative (constant_of us)) (mirror_row n k rows (origin_at os q) some.holds) ∙ ap (λ z. is_negative (constant_of (row_from n rows (origin_at os z)))) (sym s))
        (λ (d : p ≡ q → ⊥).
        get_or-set_other first q p b false d
        ∙ ⊎_elim
        (λ (s : p ≡ get_or homes k 0). ap (λ z. get_or first z false) s ∙ at_home count ∙ sign_home s)
        (λ (f : p ≡ get_or homes k 0 → ⊥). get_or-set_other below (get_or homes k 0) p sign false f ∙ elsewhere f (λ z. d (some.only p l z)))
        (cases_eq p (get_or homes k 0)))
        (cases_eq p q)

-- ---- all rows
settled_all : (n m : ℕ) (words : List ℕ) (from : ℕ) (o : Origin) → ((q : ℕ) → from ≤ q → q < m → bit words q ≡ 0) → IsOrigin n m o → IsSettled words from o
settled_all n m words from (Kept s) rest h = ⊎_elim (λ (l : s < from). inl l) (λ (l : from ≤ s). inr (rest s l h)) (cases_lt s from)
settled_all n m words from (Mirror s w) rest h = ⊎_elim (λ (l : s < from). inl l) (λ (l : from ≤ s). inr (rest s l h.row)) (cases_lt s from)
settled_all n m words from (Column p w) rest h = tt

pub told_all : (n m : ℕ) (rows : List (List ℚ)) (os : List Origin) (words : List ℕ) (from : ℕ) (below : List Bool) → All (IsOrigin n m) os → length below ≡ length os → ((q : ℕ) → from ≤ q → q < m → bit words q ≡ 0) → AreTold n rows os words from below →
    below ≡ below_of (rows_from n rows os)
told_all n m rows os words from below within count rest told =
    let f : List ℚ → Bool = λ (us : List ℚ). is_negative (constant_of us) in
    let all = rows_from n rows os in
    let wide : length all ≡ length os = length-map os (row_from n rows) in
    same_lists below (below_of all) (count ∙ sym (length-map all f ∙ wide))
    (λ p d l.
    let m' : p < length os = subst (λ z. p < z) count l in
    get_or_default below p d false l ∙ told p m' (settled_all n m words from (origin_at os p) rest (within p (Kept 0) m'))
    ∙ sym (get_or-map f all p [] d (subst (λ z. p < z) (sym wide) m') ∙ ap f (get_or-map (row_from n rows) os p (Kept 0) [] m')))

-- ---- after an exchange
width_sign : (w : ℤ) → pos 0 ≤ℤ w → lt_z w (pos 0) ≡ false
width_sign w h = grind (arith, ints)

column_sign : (n p : ℕ) (w : ℤ) → IsWidth w → is_negative (constant_of (mirror w (variable_row n p))) ≡ false
column_sign n p w h =
    ap is_negative (ring ℚ_ring (whole_ℚ w ∷ []) (var 0 ⊕ minus nil) (var 0) refl) ∙ ap (λ z. lt_z z (pos 0)) (num-whole_ℚ w) ∙ width_sign w h.least

has_bit : (words : List ℕ) (q : ℕ) → (q < 0) ⊎ (bit words q ≡ 0) → bit words q ≡ 0
has_bit words q t = ⊎_elim (λ (l : q < 0). absurd (omega arith)) (λ b. b) t

first_sign : (n m r j : ℕ) (old new : List (List ℚ)) (words : List ℕ) (o : Origin) (b : Bool) → (bit words r ≡ 0 → ⊥) → ((q : ℕ) → q < m → bit words q ≡ 0 → get_or new q [] ≡ get_or old q []) → IsOrigin n m o → IsSettled words 0 (exchanged r j o) →
    (IsMirrorOf r o → b ≡ false) → ((IsMirrorOf r o → ⊥) → b ≡ is_negative (constant_of (row_from n old o))) → b ≡ is_negative (constant_of (row_from n new (exchanged r j o)))
first_sign n m r j old new words (Kept q) b own same h t c d = d (λ z. z) ∙ ap (λ us. is_negative (constant_of us)) (sym (same q h (has_bit words q t)))
first_sign n m r j old new words (Mirror q w) b own same h t c d =
    ⊎_elim
    (λ (e : q ≡ r). c e ∙ sym (ap (λ (o : Origin). is_negative (constant_of (row_from n new o))) (own_test q r (Column j w) (Mirror q w) e) ∙ column_sign n j w h.width))
    (λ (f : q ≡ r → ⊥).
    let s = other_test q r (Column j w) (Mirror q w) f in
    d f ∙ ap (λ us. is_negative (constant_of (mirror w us))) (sym (same q h.row (has_bit words q (subst (IsSettled words 0) s t)))) ∙ ap (λ (o : Origin). is_negative (constant_of (row_from n new o))) (sym s))
    (cases_eq q r)
first_sign n m r j old new words (Column p w) b own same h t c d =
    ⊎_elim
    (λ (e : p ≡ j). absurd (own (has_bit words r (subst (IsSettled words 0) (own_test p j (Mirror r w) (Column p w) e) t))))
    (λ (f : p ≡ j → ⊥). d (λ z. z) ∙ ap (λ (o : Origin). is_negative (constant_of (row_from n new o))) (sym (other_test p j (Mirror r w) (Column p w) f)))
    (cases_eq p j)

pub told_first : (n m c r j : ℕ) (old new : List (List ℚ)) (os : List Origin) (homes : List ℕ) (mirrors columns : List (Option ℕ)) (words : List ℕ) (below after : List Bool) → AreOrigins n m c os homes mirrors columns → r < m →
    below ≡ below_of (rows_from n old os) → (bit words r ≡ 0 → ⊥) → ((q : ℕ) → q < m → bit words q ≡ 0 → get_or new q [] ≡ get_or old q []) →
    MatchOption (get_or mirrors r None) (after ≡ below) (λ k. after ≡ set below k false) → AreTold n new (map (exchanged r j) os) words 0 after
told_first n m c r j old new os homes mirrors columns words below after h lr be own same we p l t =
    let f : List ℚ → Bool = λ (us : List ℚ). is_negative (constant_of us) in
    let all = rows_from n old os in
    let l' : p < length os = subst (λ z. p < z) (length-map os (exchanged r j)) l in
    let wide : length all ≡ length os = length-map os (row_from n old) in
    let lb : length below ≡ length os = ap length be ∙ length-map all f ∙ wide in
    let was : get_or below p false ≡ f (row_from n old (origin_at os p)) =
    ap (λ (us : List Bool). get_or us p false) be ∙ get_or-map f all p [] false (subst (λ z. p < z) (sym wide) l') ∙ ap f (get_or-map (row_from n old) os p (Kept 0) [] l') in
    let s = at_mapped (exchanged r j) os p l' in
    let g = by_place (get_or mirrors r None) (h.mirror r lr) we l' lb in
    first_sign n m r j old new words (origin_at os p) (get_or after p false) own same (h.within p (Kept 0) l') (subst (IsSettled words 0) s t) g.0 (λ d. g.1 d ∙ was)
    ∙ ap (λ (o : Origin). f (row_from n new o)) (sym s)
  where
    by_place : (o : Option ℕ) → IsPlaceOf (IsMirrorOf r) os o → MatchOption o (after ≡ below) (λ k. after ≡ set below k false) → p < length os → length below ≡ length os →
        (IsMirrorOf r (origin_at os p) → get_or after p false ≡ false) × ((IsMirrorOf r (origin_at os p) → ⊥) → get_or after p false ≡ get_or below p false)
    by_place None none e b lb = (λ z. absurd (none p b z), λ d. ap (λ (us : List Bool). get_or us p false) e)
    by_place (Some k) some e b lb = (
      λ z.
          let s : p ≡ k = some.only p b z in
          ap (λ (us : List Bool). get_or us p false) e ∙ ap (λ z. get_or (set below k false) z false) s ∙ get_or-set_same below k false false (subst (λ z. k < z) (sym lb) some.within),
      λ d. ap (λ (us : List Bool). get_or us p false) e ∙ get_or-set_other below k p false false (λ (s : p ≡ k). d (subst (λ z. IsMirrorOf r (origin_at os z)) (sym s) some.holds)),
    )

-- ---- what the code reads
pub sign_read : (rows : List MixedRow) (row_below : List Bool) (k : ℕ) (d : Bool) → row_below ≡ below_of (mixed_rows rows) → k < length rows → get_or row_below k d ≡ is_negative (constant_of (get_or (mixed_rows rows) k []))
sign_read rows row_below k d e l =
    let f : List ℚ → Bool = λ (us : List ℚ). is_negative (constant_of us) in
    ap (λ (us : List Bool). get_or us k d) e ∙ get_or-map f (mixed_rows rows) k [] d (subst (λ z. k < z) (sym (length-map rows mixed_row)) l)

-- rows that are whole up to a row, and so is that row
pub whole_up_to : (n : ℕ) (rows : List MixedRow) (words : List ℕ) (from k : ℕ) (d : MixedRow) → k < length rows → ((q : ℕ) (r : MixedRow) → q < from → IsWholeRow n (get_or rows q r)) → ((q : ℕ) → from ≤ q → q < k → bit words q ≡ 0) →
    ((q : ℕ) (r : MixedRow) → q < length rows → bit words q ≡ 0 → IsWholeRow n (get_or rows q r)) → IsWholeRow n (get_or rows k d) → (q : ℕ) (r : MixedRow) → q < k + 1 → IsWholeRow n (get_or rows q r)
whole_up_to n rows words from k d lk before between rest own q r l =
    ⊎_elim (λ (m : q < from). before q r m)
    (λ (m : from ≤ q). ⊎_elim (λ (e : q ≡ k). subst (λ z. IsWholeRow n (get_or rows z r)) (sym e) (subst (λ (x : MixedRow). IsWholeRow n x) (get_or_default rows k d r lk) own))
    (λ (f : q ≡ k → ⊥). let lq = below_last f in rest q r (omega (arith, lq, lk)) (between q m lq)) (cases_eq q k)) (cases_lt q from)
  where
    below_last : (q ≡ k → ⊥) → q < k
    below_last f = ⊎_elim (λ (c : q < k). c) (λ (c : k ≤ q). absurd (f (omega arith))) (cases_lt q k)

-- Where rows come from after a pivot, and after a row and its mirror have changed places.
use Rattle.std.proofs.Common.{◌≡◌, ℕ, ◌-◌, ◌<◌, refl, sym, ap, ◌∙◌, subst, arith, List, length, get_or, set, map, cond, Option, Some, None, ⊎_elim}
use Rattle.std.specs.Prelude.{◌==◌}
use Rattle.std.proofs.lemmas.Bool.{cases_eq, eq-eqb}
use Rattle.std.proofs.lemmas.List.{get_or-map, get_or-set_same, get_or-set_other, length-map, length-set}
use Rattle.std.proofs.lemmas.List.Elements.{All-map}
use Rattle.tetri_dictionary.specs.declared.origins.Origin.{Origin}
use Rattle.tetri_dictionary.specs.declared.origins.Origin.TheVariants.{Kept, Mirror, Column}
use Rattle.tetri_dictionary.specs.Mirrors.{IsOrigin}
use Rattle.tetri_dictionary.specs.PairPivots.{exchanged}
use Rattle.tetri_dictionary.specs.Pairs.{origin_at, IsKept, IsMirrorOf, IsOfColumn, IsOnlyPlace, IsPlaceOf, AreOrigins}
use Rattle.tetri_dictionary.proofs.PivotKeeps.{other}

-- ---- a test
pub own_test : {A : Type 0} → (q r : ℕ) (a b : A) → q ≡ r → cond (q == r) a b ≡ a
own_test q r a b e = ap (λ t. cond t a b) (eq-eqb q r e)

pub other_test : {A : Type 0} → (q r : ℕ) (a b : A) → (q ≡ r → ⊥) → cond (q == r) a b ≡ b
other_test q r a b d = ap (λ t. cond t a b) (other q r d)

-- ---- one place
pub at_mapped : (f : Origin → Origin) (os : List Origin) (k : ℕ) → k < length os → origin_at (map f os) k ≡ f (origin_at os k)
at_mapped f os k l = get_or-map f os k (Kept 0) (Kept 0) l

pub only_mapped : (P Q : Origin → Type 0) (f : Origin → Origin) (os : List Origin) (k : ℕ) → ((o : Origin) → P (f o) → Q o) → ((o : Origin) → Q o → P (f o)) → IsOnlyPlace Q os k → IsOnlyPlace P (map f os) k
only_mapped P Q f os k to from h = record {
  within = subst (λ m. k < m) (sym (length-map os f)) h.within;
  holds = subst P (sym (at_mapped f os k h.within)) (from (origin_at os k) h.holds);
  only = λ q l p. let m : q < length os = subst (λ z. q < z) (length-map os f) l in h.only q m (to (origin_at os q) (subst P (at_mapped f os q m) p));
}

pub place_mapped : (P Q : Origin → Type 0) (f : Origin → Origin) (os : List Origin) (o : Option ℕ) → ((o : Origin) → P (f o) → Q o) → ((o : Origin) → Q o → P (f o)) → IsPlaceOf Q os o → IsPlaceOf P (map f os) o
place_mapped P Q f os None to from h = λ k l p. let m : k < length os = subst (λ z. k < z) (length-map os f) l in h k m (to (origin_at os k) (subst P (at_mapped f os k m) p))
place_mapped P Q f os (Some k) to from h = only_mapped P Q f os k to from h

-- ---- after a pivot
kept_exchanged : (r j q : ℕ) (o : Origin) → IsKept q (exchanged r j o) → IsKept q o
kept_exchanged r j q (Kept s) h = h
kept_exchanged r j q (Mirror s w) h =
    ⊎_elim (λ (e : s ≡ r). subst (IsKept q) (own_test s r (Column j w) (Mirror s w) e) h) (λ (d : s ≡ r → ⊥). subst (IsKept q) (other_test s r (Column j w) (Mirror s w) d) h) (cases_eq s r)
kept_exchanged r j q (Column p w) h =
    ⊎_elim (λ (e : p ≡ j). subst (IsKept q) (own_test p j (Mirror r w) (Column p w) e) h) (λ (d : p ≡ j → ⊥). subst (IsKept q) (other_test p j (Mirror r w) (Column p w) d) h) (cases_eq p j)

exchanged_kept : (r j q : ℕ) (o : Origin) → IsKept q o → IsKept q (exchanged r j o)
exchanged_kept r j q (Kept s) h = h
exchanged_kept r j q (Mirror s w) h = absurd h
exchanged_kept r j q (Column p w) h = absurd h

mirror_exchanged : (r j q : ℕ) (o : Origin) → (q ≡ r → ⊥) → IsMirrorOf q (exchanged r j o) → IsMirrorOf q o
mirror_exchanged r j q (Kept s) n h = absurd h
mirror_exchanged r j q (Mirror s w) n h =
    ⊎_elim (λ (e : s ≡ r). absurd (subst (IsMirrorOf q) (own_test s r (Column j w) (Mirror s w) e) h)) (λ (d : s ≡ r → ⊥). subst (IsMirrorOf q) (other_test s r (Column j w) (Mirror s w) d) h) (cases_eq s r)
mirror_exchanged r j q (Column p w) n h =
    ⊎_elim (λ (e : p ≡ j). absurd (n (sym (subst (IsMirrorOf q) (own_test p j (Mirror r w) (Column p w) e) h)))) (λ (d : p ≡ j → ⊥). subst (IsMirrorOf q) (other_test p j (Mirror r w) (Column p w) d) h) (cases_eq p j)

exchanged_mirror : (r j q : ℕ) (o : Origin) → (q ≡ r → ⊥) → IsMirrorOf q o → IsMirrorOf q (exchanged r j o)
exchanged_mirror r j q (Kept s) n h = absurd h
exchanged_mirror r j q (Mirror s w) n h = subst (IsMirrorOf q) (sym (other_test s r (Column j w) (Mirror s w) (λ (e : s ≡ r). n (sym h ∙ e)))) h
exchanged_mirror r j q (Column p w) n h = absurd h

own_mirror_exchanged : (r j : ℕ) (o : Origin) → IsMirrorOf r (exchanged r j o) → IsOfColumn j o
own_mirror_exchanged r j (Kept s) h = absurd h
own_mirror_exchanged r j (Mirror s w) h =
    ⊎_elim (λ (e : s ≡ r). absurd (subst (IsMirrorOf r) (own_test s r (Column j w) (Mirror s w) e) h)) (λ (d : s ≡ r → ⊥). absurd (d (subst (IsMirrorOf r) (other_test s r (Column j w) (Mirror s w) d) h))) (cases_eq s r)
own_mirror_exchanged r j (Column p w) h =
    ⊎_elim (λ (e : p ≡ j). e) (λ (d : p ≡ j → ⊥). absurd (subst (IsMirrorOf r) (other_test p j (Mirror r w) (Column p w) d) h)) (cases_eq p j)

exchanged_own_mirror : (r j : ℕ) (o : Origin) → IsOfColumn j o → IsMirrorOf r (exchanged r j o)
exchanged_own_mirror r j (Kept s) h = absurd h
exchanged_own_mirror r j (Mirror s w) h = absurd h
exchanged_own_mirror r j (Column p w) h = subst (IsMirrorOf r) (sym (own_test p j (Mirror r w) (Column p w) h)) refl

column_exchanged : (r j p : ℕ) (o : Origin) → (p ≡ j → ⊥) → IsOfColumn p (exchanged r j o) → IsOfColumn p o
column_exchanged r j p (Kept s) n h = absurd h
column_exchanged r j p (Mirror s w) n h =
    ⊎_elim (λ (e : s ≡ r). absurd (n (sym (subst (IsOfColumn p) (own_test s r (Column j w) (Mirror s w) e) h)))) (λ (d : s ≡ r → ⊥). subst (IsOfColumn p) (other_test s r (Column j w) (Mirror s w) d) h) (cases_eq s r)
column_exchanged r j p (Column q w) n h =
    ⊎_elim (λ (e : q ≡ j). absurd (subst (IsOfColumn p) (own_test q j (Mirror r w) (Column q w) e) h)) (λ (d : q ≡ j → ⊥). subst (IsOfColumn p) (other_test q j (Mirror r w) (Column q w) d) h) (cases_eq q j)

exchanged_column : (r j p : ℕ) (o : Origin) → (p ≡ j → ⊥) → IsOfColumn p o → IsOfColumn p (exchanged r j o)
exchanged_column r j p (Kept s) n h = absurd h
exchanged_column r j p (Mirror s w) n h = absurd h
exchanged_column r j p (Column q w) n h = subst (IsOfColumn p) (sym (other_test q j (Mirror r w) (Column q w) (λ (e : q ≡ j). n (sym h ∙ e)))) h

own_column_exchanged : (r j : ℕ) (o : Origin) → IsOfColumn j (exchanged r j o) → IsMirrorOf r o
own_column_exchanged r j (Kept s) h = absurd h
own_column_exchanged r j (Mirror s w) h =
    ⊎_elim (λ (e : s ≡ r). e) (λ (d : s ≡ r → ⊥). absurd (subst (IsOfColumn j) (other_test s r (Column j w) (Mirror s w) d) h)) (cases_eq s r)
own_column_exchanged r j (Column q w) h =
    ⊎_elim (λ (e : q ≡ j). absurd (subst (IsOfColumn j) (own_test q j (Mirror r w) (Column q w) e) h)) (λ (d : q ≡ j → ⊥). absurd (d (subst (IsOfColumn j) (other_test q j (Mirror r w) (Column q w) d) h))) (cases_eq q j)

exchanged_own_column : (r j : ℕ) (o : Origin) → IsMirrorOf r o → IsOfColumn j (exchanged r j o)
exchanged_own_column r j (Kept s) h = absurd h
exchanged_own_column r j (Mirror s w) h = subst (IsOfColumn j) (sym (own_test s r (Column j w) (Mirror s w) h)) refl
exchanged_own_column r j (Column p w) h = absurd h

exchanged_within : (n m r j : ℕ) (o : Origin) → r < m → j < n → IsOrigin n m o → IsOrigin n m (exchanged r j o)
exchanged_within n m r j (Kept s) lr lj h = h
exchanged_within n m r j (Mirror s w) lr lj h =
    ⊎_elim (λ (e : s ≡ r). subst (IsOrigin n m) (sym (own_test s r (Column j w) (Mirror s w) e)) (record { row = lj; width = h.width })) (λ (d : s ≡ r → ⊥). subst (IsOrigin n m) (sym (other_test s r (Column j w) (Mirror s w) d)) h) (cases_eq s r)
exchanged_within n m r j (Column p w) lr lj h =
    ⊎_elim (λ (e : p ≡ j). subst (IsOrigin n m) (sym (own_test p j (Mirror r w) (Column p w) e)) (record { row = lr; width = h.width })) (λ (d : p ≡ j → ⊥). subst (IsOrigin n m) (sym (other_test p j (Mirror r w) (Column p w) d)) h) (cases_eq p j)

-- the mirror of row r and the column of place j are exchanged
pub exchanged_origins : (n m c r j : ℕ) (os : List Origin) (homes : List ℕ) (mirrors columns : List (Option ℕ)) → AreOrigins n m c os homes mirrors columns → r < m → j < n → (r ≡ m - 1 → ⊥) →
    AreOrigins n m c (map (exchanged r j) os) homes (set mirrors r (get_or columns j None)) (set columns j (get_or mirrors r None))
exchanged_origins n m c r j os homes mirrors columns h lr lj last =
    let f = exchanged r j in
    let lm : r < length mirrors = subst (λ z. r < z) (sym h.mirrors_count) lr in
    let lc : j < length columns = subst (λ z. j < z) (sym h.columns_count) lj in
    let k = h.count in
    let oc : c < length os = omega arith in
    record {
      count = length-map os f ∙ h.count;
      within = All-map (IsOrigin n m) f os (λ q d l. exchanged_within n m r j (get_or os q d) lr lj (h.within q d l));
      objective = at_mapped f os c oc ∙ ap f h.objective;
      homes_count = h.homes_count;
      home = λ q l. only_mapped (IsKept q) (IsKept q) f os (get_or homes q 0) (kept_exchanged r j q) (exchanged_kept r j q) (h.home q l);
      mirrors_count = length-set mirrors r (get_or columns j None) ∙ h.mirrors_count;
      mirror = λ q l.
          ⊎_elim
          (λ (e : q ≡ r).
          subst (λ z. IsPlaceOf (IsMirrorOf q) (map f os) z) (sym (ap (λ z. get_or (set mirrors r (get_or columns j None)) z None) e ∙ get_or-set_same mirrors r (get_or columns j None) None lm))
          (subst (λ z. IsPlaceOf (IsMirrorOf z) (map f os) (get_or columns j None)) (sym e)
          (place_mapped (IsMirrorOf r) (IsOfColumn j) f os (get_or columns j None) (own_mirror_exchanged r j) (exchanged_own_mirror r j) (h.column j lj))))
          (λ (d : q ≡ r → ⊥).
          subst (λ z. IsPlaceOf (IsMirrorOf q) (map f os) z) (sym (get_or-set_other mirrors r q (get_or columns j None) None d))
          (place_mapped (IsMirrorOf q) (IsMirrorOf q) f os (get_or mirrors q None) (λ o. mirror_exchanged r j q o d) (λ o. exchanged_mirror r j q o d) (h.mirror q l)))
          (cases_eq q r);
      alone = get_or-set_other mirrors r (m - 1) (get_or columns j None) None (λ (e : m - 1 ≡ r). last (sym e)) ∙ h.alone;
      columns_count = length-set columns j (get_or mirrors r None) ∙ h.columns_count;
      column = λ p l.
          ⊎_elim
          (λ (e : p ≡ j).
          subst (λ z. IsPlaceOf (IsOfColumn p) (map f os) z) (sym (ap (λ z. get_or (set columns j (get_or mirrors r None)) z None) e ∙ get_or-set_same columns j (get_or mirrors r None) None lc))
          (subst (λ z. IsPlaceOf (IsOfColumn z) (map f os) (get_or mirrors r None)) (sym e)
          (place_mapped (IsOfColumn j) (IsMirrorOf r) f os (get_or mirrors r None) (own_column_exchanged r j) (exchanged_own_column r j) (h.mirror r lr))))
          (λ (d : p ≡ j → ⊥).
          subst (λ z. IsPlaceOf (IsOfColumn p) (map f os) z) (sym (get_or-set_other columns j p (get_or mirrors r None) None d))
          (place_mapped (IsOfColumn p) (IsOfColumn p) f os (get_or columns p None) (λ o. column_exchanged r j p o d) (λ o. exchanged_column r j p o d) (h.column p l)))
          (cases_eq p j);
    }

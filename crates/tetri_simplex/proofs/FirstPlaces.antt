-- The first places of variables, and what stands there.
use Rattle.std.proofs.Common.{◌≡◌, ℕ, ◌+◌, ◌-◌, ◌<◌, ◌≤◌, refl, sym, ap, ◌∙◌, subst, arith, List, [], length, get_or, set, drop, Bool, true, false, eqb, ⊎_elim}
use Prim.Native.Nat.{zero, suc}
use Rattle.std.proofs.lemmas.Bool.{cases_lt, eq-eqb, eqb-true, false≢true}
use Rattle.std.proofs.lemmas.List.{get_or-set_same, get_or-set_other}
use Rattle.tetri_algebra.specs.Rational.{ℚ}
use Rattle.tetri_algebra.specs.RationalRing.{zero_ℚ}
use Rattle.tetri_simplex.specs.Ends.{coefficient_of, value_at}
use Rattle.tetri_simplex.specs.FirstPlaces.{IsFirstFrom, IsFirstPlace}
use Rattle.tetri_dictionary.specs.Tables.{constant_of}
use Rattle.tetri_simplex.proofs.EndForms.{value_done, value_found, value_other}
use Rattle.tetri_simplex.proofs.Weighting.{coefficient_done, coefficient_found, coefficient_other}

-- ---- along the places, from the last one on
first_none : (vs : List ℕ) (k v p : ℕ) → k ≡ length vs → p ≡ length vs → IsFirstFrom vs k v p
first_none vs k v p e f = record {
  from = omega arith;
  within = omega arith;
  found = λ l. absurd (omega arith);
  before = λ q l m s. absurd (omega arith);
}

first_other : (vs : List ℕ) (k v p : ℕ) → IsFirstFrom vs (k + 1) v p → (get_or vs k 0 ≡ v → ⊥) → IsFirstFrom vs k v p
first_other vs k v p h d = record {
  from = let f = h.from in omega arith;
  within = h.within;
  found = h.found;
  before = λ q l m s. ⊎_elim (λ (c : k < q). h.before q (next q c) m s) (λ c. d (ap (λ z. get_or vs z 0) (same q l c) ∙ s)) (cases_lt k q);
}
  where
    next : (q : ℕ) → k < q → k + 1 ≤ q
    next q c = omega arith

    same : (q : ℕ) → k ≤ q → q ≤ k → k ≡ q
    same q l c = omega arith

first_own : (vs : List ℕ) (k v : ℕ) → k < length vs → get_or vs k 0 ≡ v → IsFirstFrom vs k v k
first_own vs k v l e = record {
  from = omega arith;
  within = omega arith;
  found = λ _. e;
  before = λ q a b s. absurd (omega arith);
}

abbrev pub AreFirstFrom : List ℕ → ℕ → ℕ → ℕ → List ℕ → Type 0
AreFirstFrom vs k first count ps = (i : ℕ) → i < count → IsFirstFrom vs k (first + i) (get_or ps i 0)

pub places_none : (vs : List ℕ) (k first count : ℕ) (ps : List ℕ) → k ≡ length vs → ((i : ℕ) → i < count → get_or ps i 0 ≡ length vs) → AreFirstFrom vs k first count ps
places_none vs k first count ps e h i l = first_none vs k (first + i) (get_or ps i 0) e (h i l)

pub places_kept : (vs : List ℕ) (k first count v : ℕ) (ps : List ℕ) → get_or vs k 0 ≡ v → (first ≤ v → v - first < count → ⊥) → AreFirstFrom vs (k + 1) first count ps → AreFirstFrom vs k first count ps
places_kept vs k first count v ps e d h i l = first_other vs k (first + i) (get_or ps i 0) (h i l) (λ s. outside (sym e ∙ s))
  where
    outside : v ≡ first + i → ⊥
    outside s = d (omega arith) (omega arith)

pub places_set : (vs : List ℕ) (k first count v : ℕ) (ps : List ℕ) → k < length vs → get_or vs k 0 ≡ v → first ≤ v → length ps ≡ count → v - first < count → AreFirstFrom vs (k + 1) first count ps → AreFirstFrom vs k first count (set ps (v - first) k)
places_set vs k first count v ps kl e f c b h i l = by_place (eqb i (v - first)) refl
  where
    one : i ≡ v - first → v ≡ first + i
    one s = omega arith

    other : (i ≡ v - first → ⊥) → v ≡ first + i → ⊥
    other d s = d (omega arith)

    by_place : (t : Bool) → eqb i (v - first) ≡ t → IsFirstFrom vs k (first + i) (get_or (set ps (v - first) k) i 0)
    by_place true g =
        let s = eqb-true i (v - first) g in
        let r : get_or (set ps (v - first) k) i 0 ≡ k = ap (λ z. get_or (set ps z k) i 0) (sym s) ∙ get_or-set_same ps i k 0 (subst (λ z. i < z) (sym c) l) in
        subst (λ p. IsFirstFrom vs k (first + i) p) (sym r) (first_own vs k (first + i) kl (e ∙ one s))
    by_place false g =
        let d : i ≡ v - first → ⊥ = λ s. false≢true (sym g ∙ eq-eqb i (v - first) s) in
        subst (λ p. IsFirstFrom vs k (first + i) p) (sym (get_or-set_other ps (v - first) i k 0 d))
        (first_other vs k (first + i) (get_or ps i 0) (h i l) (λ s. other d (sym e ∙ s)))

-- ---- what stands at a first place
one_more : (q : ℕ) → suc q ≡ q + 1
one_more q = omega arith

value_along : (bs : List ℕ) (rows : List (List ℚ)) (v p : ℕ) → IsFirstPlace bs v p → (q : ℕ) → q ≤ p → value_at (drop q bs) (drop q rows) v ≡ value_at bs rows v
value_along bs rows v p h zero l = refl
value_along bs rows v p h (suc q) l =
    ap (λ n. value_at (drop n bs) (drop n rows) v) (one_more q)
    ∙ value_other bs rows v q (let w = h.within in omega arith) (h.before q (omega arith) (omega arith))
    ∙ value_along bs rows v p h q (omega arith)

pub value_first : (bs : List ℕ) (rows : List (List ℚ)) (v p : ℕ) → IsFirstPlace bs v p → p < length bs → value_at bs rows v ≡ constant_of (get_or rows p [])
value_first bs rows v p h l = sym (value_along bs rows v p h p (omega arith)) ∙ value_found bs rows v p l (h.found l)

pub value_nowhere : (bs : List ℕ) (rows : List (List ℚ)) (v p : ℕ) → IsFirstPlace bs v p → length bs ≤ p → value_at bs rows v ≡ zero_ℚ
value_nowhere bs rows v p h l = sym (value_along bs rows v p h p (omega arith)) ∙ value_done bs rows v p l

coefficient_along : (nb : List ℕ) (cs : List ℚ) (v p : ℕ) → IsFirstPlace nb v p → (q : ℕ) → q ≤ p → coefficient_of (drop q nb) (drop q cs) v ≡ coefficient_of nb cs v
coefficient_along nb cs v p h zero l = refl
coefficient_along nb cs v p h (suc q) l =
    ap (λ n. coefficient_of (drop n nb) (drop n cs) v) (one_more q)
    ∙ coefficient_other nb cs v q (let w = h.within in omega arith) (h.before q (omega arith) (omega arith))
    ∙ coefficient_along nb cs v p h q (omega arith)

pub coefficient_first : (nb : List ℕ) (cs : List ℚ) (v p : ℕ) → IsFirstPlace nb v p → p < length nb → coefficient_of nb cs v ≡ get_or cs p zero_ℚ
coefficient_first nb cs v p h l = sym (coefficient_along nb cs v p h p (omega arith)) ∙ coefficient_found nb cs v p l (h.found l)

pub coefficient_nowhere : (nb : List ℕ) (cs : List ℚ) (v p : ℕ) → IsFirstPlace nb v p → length nb ≤ p → coefficient_of nb cs v ≡ zero_ℚ
coefficient_nowhere nb cs v p h l = sym (coefficient_along nb cs v p h p (omega arith)) ∙ coefficient_done nb cs v p l

-- the place that the code read of a column, whose variable is counted from 0 on
pub column_first : (vs bs : List ℕ) (ps : List ℕ) (count j : ℕ) → vs ≡ bs → AreFirstFrom vs 0 0 count ps → j < count → IsFirstPlace bs j (get_or ps j 0)
column_first vs bs ps count j e h l = subst (λ us. IsFirstPlace us j (get_or ps j 0)) e (subst (λ z. IsFirstPlace vs z (get_or ps j 0)) from_zero (h j l))
  where
    from_zero : 0 + j ≡ j
    from_zero = omega arith

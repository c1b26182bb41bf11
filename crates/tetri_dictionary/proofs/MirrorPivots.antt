-- A pivot of all rows is that of the rows that are kept.
use Rattle.std.proofs.Common.{◌≡◌, ℕ, ◌+◌, ◌<◌, refl, sym, ap, ◌∙◌, subst, arith, List, [], ◌∷◌, length, get_or, set, map, Result, Ok, ⊎_elim}
use Prim.Native.Nat.{suc}
use Rattle.std.specs.Prelude.{All}
use Rattle.std.proofs.lemmas.Bool.{cases_eq}
use Rattle.std.proofs.lemmas.List.{get_or-map, get_or_default, length-map, length-set}
use lib.IntN.{pos}
use Rattle.tetri_algebra.specs.Rational.{ℚ}
use Rattle.tetri_algebra.specs.RationalRing.{zero_ℚ}
use Rattle.tetri_base.specs.ResultSteps.{then_ok}
use Rattle.tetri_num.specs.declared.places.Place.{Place}
use Rattle.tetri_rows.specs.Rows.{put_in, solved_for}
use Rattle.tetri_rows.specs.Small.{IsSmall}
use Rattle.tetri_dictionary.specs.declared.origins.Origin.{Origin}
use Rattle.tetri_dictionary.specs.declared.origins.Origin.TheVariants.{Kept, Mirror, Column}
use Rattle.tetri_dictionary.specs.Mirrors.{mirror, variable_row, row_from, rows_from, IsOrigin, IsBounded}
use Rattle.tetri_dictionary.specs.PairPivots.{exchanged}
use Rattle.tetri_dictionary.specs.Pairs.{origin_at, IsKept}
use Rattle.tetri_dictionary.specs.Pivots.{solved_row, replaced_row, next_row, pivoted_rows}
use Rattle.tetri_dictionary.specs.Steps.{each}
use Rattle.tetri_dictionary.proofs.EachPlace.{each_length}
use Rattle.tetri_dictionary.proofs.HolderRows.{parts, at_row, own_after}
use Rattle.tetri_dictionary.proofs.MirrorNumbers.{IsShortNumber, small_row, small_mirror, short_variable, bounded_row, bounded_put_in}
use Rattle.tetri_dictionary.proofs.MirrorRows.{length-mirror, length-variable, put_in-mirror, put_in-solved, put_in-variable, put_in-other}
use Rattle.tetri_dictionary.proofs.PairOrigins.{own_test, other_test}
use Rattle.tetri_dictionary.proofs.SmallSteps.{replaced_small, solved_small}
use Rattle.tetri_dictionary.proofs.TableRows.{own_row, other_row, pivoted_is}

-- m kept rows of a constant and n coefficients each, whose numbers are short, as are those of row r solved for its variable at place j
pub record AreShortRows (n m r j : ℕ) (kept : List (List ℚ)) : Type 0 where
  pub count : length kept ≡ m
  pub row : r < m
  pub place : j < n
  pub wide : (q : ℕ) → q < m → length (get_or kept q []) ≡ n + 1
  pub short : (q : ℕ) → q < m → All IsShortNumber (get_or kept q [])
  pub pivot : (get_or (get_or kept r []) (suc j) zero_ℚ).num ≡ pos 0 → ⊥
  pub solved : All IsShortNumber (solved_for (suc j) (get_or kept r []))

-- ---- each in turn, over two forms of one list
pub each_by : {A B : Type 0} → (f : ℕ → A → Result B Place) (g : Origin → A) (h : Origin → B) (e : Origin → Origin) (k : ℕ) (os : List Origin) →
    ((q : ℕ) (d : Origin) → q < length os → f (k + q) (g (get_or os q d)) ≡ Ok (h (e (get_or os q d)))) → each f k (map g os) ≡ Ok (map h (map e os))
each_by {B = B} f g h e k [] t = refl
each_by {B = B} f g h e k (o ∷ os) t =
    let z : k + 0 ≡ k = omega arith in
    ap (λ x. then_ok x (λ y. then_ok (each f (k + 1) (map g os)) (λ ys. Ok (y ∷ ys)))) (ap (λ i. f i (g o)) (sym z) ∙ t 0 o (omega arith))
    ∙ ap (λ x. then_ok x (λ ys. Ok (h (e o) ∷ ys))) (each_by f g h e (k + 1) os (λ q d l. ap (λ i. f i (g (get_or os q d))) (at_suc q) ∙ t (suc q) d (omega arith)))
  where
    at_suc : (q : ℕ) → (k + 1) + q ≡ k + suc q
    at_suc q = omega arith

-- what each gives, where none fails
each_made : {A B : Type 0} → (f : ℕ → A → Result B Place) (k : ℕ) (xs : List A) → ((q : ℕ) (d : A) → q < length xs → (y : B) × (f (k + q) (get_or xs q d) ≡ Ok y)) → (ys : List B) × (each f k xs ≡ Ok ys)
each_made {B = B} f k [] t = ([], refl)
each_made {B = B} f k (x ∷ xs) t =
    let z : k + 0 ≡ k = omega arith in
    let a = t 0 x (omega arith) in
    let b = each_made f (k + 1) xs (λ q d l. let u = t (suc q) d (omega arith) in (u.0, ap (λ i. f i (get_or xs q d)) (at_suc q) ∙ u.1)) in (
      a.0 ∷ b.0,
      ap (λ o. then_ok o (λ y. then_ok (each f (k + 1) xs) (λ ys. Ok (y ∷ ys)))) (ap (λ i. f i x) (sym z) ∙ a.1)
          ∙ ap (λ o. then_ok o (λ ys. Ok (a.0 ∷ ys))) b.1,
    )
  where
    at_suc : (q : ℕ) → (k + 1) + q ≡ k + suc q
    at_suc q = omega arith

-- ---- the pivot of the kept rows
length_solved : (k : ℕ) (xs : List ℚ) → length (solved_for k xs) ≡ length xs
length_solved k xs = length-map (set xs k _) _ ∙ length-set xs k _

solves : (n m i r j : ℕ) (kept : List (List ℚ)) → AreShortRows n m r j kept → solved_row n i j (get_or kept r []) ≡ Ok (solved_for (suc j) (get_or kept r []))
solves n m i r j kept h =
    let w = h.wide r h.row in
    let p = h.place in
    solved_small n i j (get_or kept r []) (omega arith) (small_row (get_or kept r []) (h.short r h.row))

same : {A : Type 0} → (o : Result A Place) (x y : A) → o ≡ Ok x → o ≡ Ok y → x ≡ y
same o x y e f = cc

puts : (n m i r j : ℕ) (kept : List (List ℚ)) (xs : List ℚ) → AreShortRows n m r j kept → length xs ≡ n + 1 → All IsSmall xs → replaced_row n i j (solved_for (suc j) (get_or kept r [])) xs ≡ Ok (put_in (suc j) (solved_for (suc j) (get_or kept r [])) xs)
puts n m i r j kept xs h w s =
    let own = get_or kept r [] in
    let p = h.place in
    let l = length_solved (suc j) own in
    let v = h.wide r h.row in
    replaced_small n i j xs (solved_for (suc j) own) (omega arith) (omega (arith, l, v)) s (small_row (solved_for (suc j) own) h.solved)

-- a kept row after it
pub new_own : (n m r j : ℕ) (kept new : List (List ℚ)) → AreShortRows n m r j kept → pivoted_rows n r j kept ≡ Ok new → get_or new r [] ≡ solved_for (suc j) (get_or kept r [])
new_own n m r j kept new h e =
    let a = parts n r j kept new e in
    sym (own_after n r j a.0 kept new a.1.1 (subst (λ z. r < z) (sym h.count) h.row)) ∙ same _ _ _ a.1.0 (solves n m r r j kept h)

pub new_other : (n m r j : ℕ) (kept new : List (List ℚ)) (q : ℕ) → AreShortRows n m r j kept → pivoted_rows n r j kept ≡ Ok new → q < m → (q ≡ r → ⊥) → get_or new q [] ≡ put_in (suc j) (solved_for (suc j) (get_or kept r [])) (get_or kept q [])
new_other n m r j kept new q h e l d =
    let a = parts n r j kept new e in
    let s = solved_for (suc j) (get_or kept r []) in
    let se : a.0 ≡ s = same _ _ _ a.1.0 (solves n m r r j kept h) in
    same _ _ _ (sym (ap (λ zs. next_row n r j zs q (get_or kept q [])) se) ∙ at_row n r j a.0 kept new q a.1.1 (subst (λ z. q < z) (sym h.count) l))
    (other_row n r j s q (get_or kept q []) d ∙ puts n m q r j kept (get_or kept q []) h (h.wide q l) (small_row (get_or kept q []) (h.short q l)))

pub new_count : (n m r j : ℕ) (kept new : List (List ℚ)) → AreShortRows n m r j kept → pivoted_rows n r j kept ≡ Ok new → length new ≡ m
new_count n m r j kept new h e = let a = parts n r j kept new e in each_length (next_row n r j a.0) 0 kept new a.1.1 ∙ h.count

-- it is never refused
pub never_refused : (n m r j : ℕ) (kept : List (List ℚ)) → AreShortRows n m r j kept → (new : List (List ℚ)) × (pivoted_rows n r j kept ≡ Ok new)
never_refused n m r j kept h =
    let s = solved_for (suc j) (get_or kept r []) in
    let t = each_made (next_row n r j s) 0 kept (λ q d l. at_place q d l) in
    (t.0, pivoted_is n r j kept s (solves n m r r j kept h) ∙ t.1)
  where
    at_place : (q : ℕ) (d : List ℚ) → q < length kept → (ys : List ℚ) × (next_row n r j (solved_for (suc j) (get_or kept r [])) (0 + q) (get_or kept q d) ≡ Ok ys)
    at_place q d l =
        let s = solved_for (suc j) (get_or kept r []) in
        let c = h.count in
        let m' : q < m = omega arith in
        let z : 0 + q ≡ q = omega arith in
        let g : get_or kept q d ≡ get_or kept q [] = get_or_default kept q d [] l in
        ⊎_elim
        (λ (e : q ≡ r). (s, own_row n r j s (0 + q) (get_or kept q d) (z ∙ e)))
        (λ (f : q ≡ r → ⊥). (
          put_in (suc j) s (get_or kept q []),
          ap (λ k. next_row n r j s k (get_or kept q d)) z ∙ ap (next_row n r j s q) g ∙ other_row n r j s q (get_or kept q []) f ∙ puts n m q r j kept (get_or kept q []) h (h.wide q m') (small_row (get_or kept q []) (h.short q m')),
        ))
        (cases_eq q r)

-- and its numbers are bounded
pub new_bounded : (n m r j : ℕ) (kept new : List (List ℚ)) → AreShortRows n m r j kept → pivoted_rows n r j kept ≡ Ok new → (q : ℕ) → q < m → All IsBounded (get_or new q [])
new_bounded n m r j kept new h e q l =
    let s = solved_for (suc j) (get_or kept r []) in
    let w = h.wide q l in
    let p = h.place in
    ⊎_elim
    (λ (c : q ≡ r). subst (λ xs. All IsBounded xs) (sym (ap (λ k. get_or new k []) c ∙ new_own n m r j kept new h e)) (bounded_row s h.solved))
    (λ (d : q ≡ r → ⊥). subst (λ xs. All IsBounded xs) (sym (new_other n m r j kept new q h e l d)) (bounded_put_in (suc j) s (get_or kept q []) (omega arith) h.solved (h.short q l)))
    (cases_eq q r)

-- ---- the pivot of all rows
pub wide_from : (n m r j : ℕ) (kept : List (List ℚ)) (o : Origin) → AreShortRows n m r j kept → IsOrigin n m o → length (row_from n kept o) ≡ n + 1
wide_from n m r j kept (Kept q) h o = h.wide q o
wide_from n m r j kept (Mirror q w) h o = length-mirror w (get_or kept q []) ∙ h.wide q o.row
wide_from n m r j kept (Column p w) h o = length-mirror w (variable_row n p) ∙ length-variable n p

pub small_from : (n m r j : ℕ) (kept : List (List ℚ)) (o : Origin) → AreShortRows n m r j kept → IsOrigin n m o → All IsSmall (row_from n kept o)
small_from n m r j kept (Kept q) h o = small_row (get_or kept q []) (h.short q o)
small_from n m r j kept (Mirror q w) h o = small_mirror w (get_or kept q []) o.width (h.short q o.row)
small_from n m r j kept (Column p w) h o = small_mirror w (variable_row n p) o.width (short_variable n p)

-- the row of another origin than the leaving one
put_from : (n m r j : ℕ) (kept new : List (List ℚ)) (o : Origin) → AreShortRows n m r j kept → pivoted_rows n r j kept ≡ Ok new → IsOrigin n m o → (IsKept r o → ⊥) →
    put_in (suc j) (solved_for (suc j) (get_or kept r [])) (row_from n kept o) ≡ row_from n new (exchanged r j o)
put_from n m r j kept new (Kept q) h e o d = sym (new_other n m r j kept new q h e o d)
put_from n m r j kept new (Mirror q w) h e o d =
    let s = solved_for (suc j) (get_or kept r []) in
    put_in-mirror w j s (get_or kept q [])
    ∙ ⊎_elim
    (λ (c : q ≡ r).
    ap (λ k. mirror w (put_in (suc j) s (get_or kept k []))) c ∙ ap (mirror w) (put_in-solved n j (get_or kept r []) (h.wide r h.row) h.pivot)
    ∙ ap (row_from n new) (sym (own_test q r (Column j w) (Mirror q w) c)))
    (λ (f : q ≡ r → ⊥). ap (mirror w) (sym (new_other n m r j kept new q h e o.row f)) ∙ ap (row_from n new) (sym (other_test q r (Column j w) (Mirror q w) f)))
    (cases_eq q r)
put_from n m r j kept new (Column p w) h e o d =
    let own = get_or kept r [] in
    let s = solved_for (suc j) own in
    let ls : length s ≡ n + 1 = length_solved (suc j) own ∙ h.wide r h.row in
    put_in-mirror w j s (variable_row n p)
    ∙ ⊎_elim
    (λ (c : p ≡ j).
    ap (λ k. mirror w (put_in (suc j) s (variable_row n k))) c ∙ ap (mirror w) (put_in-variable n j s h.place ls ∙ sym (new_own n m r j kept new h e))
    ∙ ap (row_from n new) (sym (own_test p j (Mirror r w) (Column p w) c)))
    (λ (f : p ≡ j → ⊥). ap (mirror w) (put_in-other n j p s f) ∙ ap (row_from n new) (sym (other_test p j (Mirror r w) (Column p w) f)))
    (cases_eq p j)

own_from : (n m r j : ℕ) (kept new : List (List ℚ)) (o : Origin) → AreShortRows n m r j kept → pivoted_rows n r j kept ≡ Ok new → o ≡ Kept r → solved_for (suc j) (get_or kept r []) ≡ row_from n new (exchanged r j o)
own_from n m r j kept new o h e c = sym (new_own n m r j kept new h e) ∙ ap (λ (k : Origin). row_from n new (exchanged r j k)) (sym c)

-- the place i of the leaving variable is the only one whose row is kept row r
pub pivoted_from : (n m i r j : ℕ) (kept new : List (List ℚ)) (os : List Origin) → AreShortRows n m r j kept → All (IsOrigin n m) os → i < length os → origin_at os i ≡ Kept r →
    ((q : ℕ) → q < length os → IsKept r (origin_at os q) → q ≡ i) → pivoted_rows n r j kept ≡ Ok new → pivoted_rows n i j (rows_from n kept os) ≡ Ok (rows_from n new (map (exchanged r j) os))
pivoted_from n m i r j kept new os h all l o only e =
    let s = solved_for (suc j) (get_or kept r []) in
    let g : get_or (rows_from n kept os) i [] ≡ get_or kept r [] = get_or-map (row_from n kept) os i (Kept 0) [] l ∙ ap (row_from n kept) o in
    pivoted_is n i j (rows_from n kept os) s (ap (solved_row n i j) g ∙ solves n m i r j kept h)
    ∙ each_by (next_row n i j s) (row_from n kept) (row_from n new) (exchanged r j) 0 os (λ q d b. at_place q d b)
  where
    at_place : (q : ℕ) (d : Origin) → q < length os → next_row n i j (solved_for (suc j) (get_or kept r [])) (0 + q) (row_from n kept (get_or os q d)) ≡ Ok (row_from n new (exchanged r j (get_or os q d)))
    at_place q d b =
        let s = solved_for (suc j) (get_or kept r []) in
        let x = get_or os q d in
        let z : 0 + q ≡ q = omega arith in
        let xe : x ≡ origin_at os q = get_or_default os q d (Kept 0) b in
        ⊎_elim
        (λ (c : q ≡ i). own_row n i j s (0 + q) (row_from n kept x) (z ∙ c) ∙ ap Ok (own_from n m r j kept new x h e (xe ∙ ap (origin_at os) c ∙ o)))
        (λ (f : q ≡ i → ⊥).
        ap (λ k. next_row n i j s k (row_from n kept x)) z ∙ other_row n i j s q (row_from n kept x) f
        ∙ puts n m q r j kept (row_from n kept x) h (wide_from n m r j kept x h (all q d b)) (small_from n m r j kept x h (all q d b))
        ∙ ap Ok (put_from n m r j kept new x h e (all q d b) (λ k. f (only q b (subst (IsKept r) xe k)))))
        (cases_eq q i)

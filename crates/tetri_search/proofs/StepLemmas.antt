-- One step of each loop over the columns of a region or of a point.
use Rattle.std.proofs.Common.{◌≡◌, ℕ, ◌+◌, ◌<◌, ◌≤◌, sym, ap, ◌∙◌, arith, List, [], ◌∷◌, ◌++◌, length, get_or, drop, map, cond, eqb, Bool, Some, None}
use Prim.Native.Nat.{suc}
use Rattle.std.specs.Int.{int_div_euclid}
use Rattle.std.proofs.Math.Seq.{drop-cons}
use Rattle.std.proofs.lemmas.List.{append-nil, append_assoc, drop_all}
use lib.IntN.{ℤ, pos, ◌+ℤ◌, ◌-ℤ◌}
use lib.Signed.{lt_z}
use Rattle.tetri_algebra.specs.RationalOrder.{floor_ℚ}
use Rattle.tetri_num.specs.declared.fractions.Frac.{Frac}
use Rattle.tetri_num.specs.Frac.{value}
use Rattle.tetri_num.proofs.FractionLaws.{num-value}
use Rattle.tetri_simplex.specs.Relaxation.{numerators}
use Rattle.tetri_search.specs.Table.{fractional_from, unfixed_from}

drop_more : {X : Type 0} → (xs : List X) (j : ℕ) (x : X) → j < length xs → x ≡ get_or xs j x → drop j xs ≡ x ∷ drop (j + 1) xs
drop_more xs j x l e = let s : suc j ≡ j + 1 = omega arith in drop-cons xs j x l ∙ ap (λ y. y ∷ drop (suc j) xs) (sym e) ∙ ap (λ k. x ∷ drop k xs) s

-- ---- a column with more than one number
pub unfixed_step : (ls us : List ℤ) (j : ℕ) (l u : ℤ) (t : Bool) → j < length ls → j < length us → l ≡ get_or ls j l → u ≡ get_or us j u → lt_z l u ≡ t →
    unfixed_from j (drop j ls) (drop j us) ≡ cond t (Some (record { column = j; at = l +ℤ int_div_euclid (u -ℤ l) (pos 2) })) (unfixed_from (j + 1) (drop (j + 1) ls) (drop (j + 1) us))
unfixed_step ls us j l u t a b e f g =
    ap (λ xs. unfixed_from j xs (drop j us)) (drop_more ls j l a e)
    ∙ ap (λ ys. unfixed_from j (l ∷ drop (j + 1) ls) ys) (drop_more us j u b f)
    ∙ ap (λ v. cond v (Some (record { column = j; at = l +ℤ int_div_euclid (u -ℤ l) (pos 2) })) (unfixed_from (j + 1) (drop (j + 1) ls) (drop (j + 1) us))) g

pub unfixed_end : (ls us : List ℤ) (j : ℕ) → length ls ≤ j → unfixed_from j (drop j ls) (drop j us) ≡ None
unfixed_end ls us j h = ap (λ xs. unfixed_from j xs (drop j us)) (drop_all j ls h)

-- ---- a column whose number is not whole
pub fractional_step : (xs : List Frac) (j : ℕ) (x : Frac) (t : Bool) → j < length xs → x ≡ get_or xs j x → t ≡ eqb (value x).den 1 →
    fractional_from j (map value (drop j xs)) ≡ cond t (fractional_from (j + 1) (map value (drop (j + 1) xs))) (Some (record { column = j; at = floor_ℚ (value x) }))
fractional_step xs j x t a e g =
    ap (λ ys. fractional_from j (map value ys)) (drop_more xs j x a e)
    ∙ ap (λ v. cond v (fractional_from (j + 1) (map value (drop (j + 1) xs))) (Some (record { column = j; at = floor_ℚ (value x) }))) (sym g)

pub fractional_end : (xs : List Frac) (j : ℕ) → length xs ≤ j → fractional_from j (map value (drop j xs)) ≡ None
fractional_end xs j h = ap (λ ys. fractional_from j (map value ys)) (drop_all j xs h)

-- ---- the numerators of a point
pub numerators_step : (xs : List Frac) (j : ℕ) (x : Frac) (n : ℤ) (ns more whole : List ℤ) → j < length xs → x ≡ get_or xs j x → n ≡ x.num → more ≡ ns ++ n ∷ [] → ns ++ numerators (map value (drop j xs)) ≡ whole → more ++ numerators (map value (drop (j + 1) xs)) ≡ whole
numerators_step xs j x n ns more whole a e f m h =
    let rest = numerators (map value (drop (j + 1) xs)) in
    ap (λ ys. ys ++ rest) m
    ∙ append_assoc ns (n ∷ []) rest
    ∙ ap (λ z. ns ++ z ∷ rest) (f ∙ sym (num-value x))
    ∙ ap (λ ys. ns ++ numerators (map value ys)) (sym (drop_more xs j x a e))
    ∙ h

pub numerators_end : (xs : List Frac) (j : ℕ) (ns whole : List ℤ) → length xs ≤ j → ns ++ numerators (map value (drop j xs)) ≡ whole → ns ≡ whole
numerators_end xs j ns whole l h = sym (append-nil ns) ∙ ap (λ ys. ns ++ numerators (map value ys)) (sym (drop_all j xs l)) ∙ h

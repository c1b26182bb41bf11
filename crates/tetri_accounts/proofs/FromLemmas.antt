-- The items of a list from a place on.
use Rattle.std.proofs.Common.{◌≡◌, ℕ, ◌+◌, List, [], ◌∷◌, drop, refl, ap, ◌∙◌, arith, suc, zero}
use Rattle.std.specs.Prelude.{Some, None, slice_get}
use Rattle.std.proofs.lemmas.Option.{same_Some}

pub none_from : {X : Type 0} (xs : List X) (i : ℕ) → slice_get xs i ≡ None → drop i xs ≡ []
none_from [] zero is = refl
none_from [] (suc i) is = refl
none_from (x ∷ xs) zero is = absurd cc
none_from (x ∷ xs) (suc i) is = none_from xs i is

some_next : {X : Type 0} (xs : List X) (i : ℕ) (y : X) → slice_get xs i ≡ Some y → drop i xs ≡ y ∷ drop (suc i) xs
some_next [] i y is = absurd cc
some_next (x ∷ xs) zero y is = ap (λ z. z ∷ xs) (same_Some x y is)
some_next (x ∷ xs) (suc i) y is = some_next xs i y is

pub some_from : {X : Type 0} (xs : List X) (i : ℕ) (y : X) → slice_get xs i ≡ Some y → drop i xs ≡ y ∷ drop (i + 1) xs
some_from xs i y is = let next : suc i ≡ i + 1 = omega arith in some_next xs i y is ∙ ap (λ n. y ∷ drop n xs) next

-- How many items pass a test.
use Rattle.std.proofs.Common.{◌≡◌, ◌+◌, ◌++◌, ◌∷◌, [], Bool, List, arith}
use Rattle.tetri_base.specs.Lists.{bit, count}

pub count_push : {X : Type 0} (p : X → Bool) (xs : List X) (x : X) → count p (xs ++ x ∷ []) ≡ count p xs + bit (p x)
count_push p [] x = omega arith
count_push p (y ∷ ys) x = omega (arith, count_push p ys x)

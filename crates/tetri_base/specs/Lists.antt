-- Sums, counts and facts of lists, each by the structure of the list.
use Rattle.std.specs.Prelude.{ℕ, ◌+◌, ◌<◌, Bool, true, false, not, ◌==◌, List, [], ◌∷◌, map, slice_index_or, Option, Some, None, Vec}
use Rattle.std.specs.List.{list_any}
use Rattle.std.specs.declared.alloc.Global.{Global}

-- the sum of a number of each item
abbrev pub sum_of : {X : Type 0} → (X → ℕ) → List X → ℕ
sum_of f [] = 0
sum_of f (x ∷ xs) = f x + sum_of f xs

-- 1 where the test passes
abbrev pub bit : Bool → ℕ
bit true = 1
bit false = 0

-- how many items pass the test
abbrev pub count : {X : Type 0} → (X → Bool) → List X → ℕ
count p xs = sum_of (λ x. bit (p x)) xs

-- whether the number is in the list
abbrev pub has : List ℕ → ℕ → Bool
has ns n = list_any (λ m. m == n) ns

-- whether two answers are the same
abbrev pub same : Bool → Bool → Bool
same true b = b
same false b = not b

-- a fact of each item
abbrev pub Each : {X : Type 0} → (X → Type 0) → List X → Type 0
Each P [] = Unit {0}
Each P (x ∷ xs) = P x × Each P xs

-- a fact of each item and each later one
abbrev pub EachPair : {X : Type 0} → (X → X → Type 0) → List X → Type 0
EachPair R [] = Unit {0}
EachPair R (x ∷ xs) = Each (R x) xs × EachPair R xs

abbrev pub Ascends : List ℕ → Type 0
Ascends ns = EachPair (λ m n. m < n) ns

-- the list at a place, and the empty list past the end
abbrev pub list_at : {X : Type 0} → List (Vec X Global) → ℕ → List X
list_at vs k = slice_index_or (map (λ v. v.items) vs) k []

-- with this item in front, if there is one
abbrev pub with_first : {X : Type 0} → Option X → List X → List X
with_first None xs = xs
with_first (Some x) xs = x ∷ xs

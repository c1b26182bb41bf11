-- What is formed one by one, up to the first number that leaves the range.
use Rattle.std.specs.Prelude.{ℕ, ◌+◌, List, [], ◌∷◌, Option, Some, None, Result, Ok, Err}
use Rattle.tetri_algebra.specs.Rational.{ℚ}
use Rattle.tetri_base.specs.ResultSteps.{then_ok}
use Rattle.tetri_algebra.specs.RationalRing.{zero_ℚ}
use Rattle.tetri_num.specs.declared.places.Kind.{Kind}
use Rattle.tetri_num.specs.declared.places.Place.{Place}

-- a place of a table, in the run's first step
abbrev pub place_at : Kind → ℕ → ℕ → Place
place_at k i j = record { kind = k; step = 0; row = i; column = j }

-- the value, or the place at which none was formed
abbrev pub or_place : {A : Type 0} → Option A → Kind → ℕ → ℕ → Result A Place
or_place None k i j = Err (place_at k i j)
or_place (Some x) k i j = Ok x

-- each of a list in turn, counted from k
abbrev pub each : {A B : Type 0} → (ℕ → A → Result B Place) → ℕ → List A → Result (List B) Place
each f k [] = Ok []
each f k (x ∷ xs) = then_ok (f k x) (λ y. then_ok (each f (k + 1) xs) (λ ys. Ok (y ∷ ys)))

-- each pair of two rows in turn, the shorter row filled up with 0
abbrev pub each_pair : (ℕ → ℚ → ℚ → Result ℚ Place) → ℕ → List ℚ → List ℚ → Result (List ℚ) Place
each_pair f k [] [] = Ok []
each_pair f k [] (y ∷ ys) = then_ok (f k zero_ℚ y) (λ z. then_ok (each_pair f (k + 1) [] ys) (λ zs. Ok (z ∷ zs)))
each_pair f k (x ∷ xs) [] = then_ok (f k x zero_ℚ) (λ z. then_ok (each_pair f (k + 1) xs []) (λ zs. Ok (z ∷ zs)))
each_pair f k (x ∷ xs) (y ∷ ys) = then_ok (f k x y) (λ z. then_ok (each_pair f (k + 1) xs ys) (λ zs. Ok (z ∷ zs)))

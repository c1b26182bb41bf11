-- Lists in order, where a test says what comes before what.
use Rattle.std.specs.Prelude.{ℕ, ◌==◌, ◌&&◌, ◌||◌, Bool, nat_lt, if◌then◌else◌, List, [], ◌∷◌}

module _ {X : Type 0} (before : X → X → Bool) where
  -- puts it in front of the first that it does not come after
  abbrev pub put : X → List X → List X
  put x [] = x ∷ []
  put x (y ∷ ys) = if before y x then y ∷ put x ys else x ∷ y ∷ ys

  abbrev pub in_order : List X → List X
  in_order [] = []
  in_order (x ∷ xs) = put x (in_order xs)

module _ {X : Type 0} (f : X → ℕ) where
  -- by this number, and then by the rest
  abbrev pub by_then : (X → X → Bool) → X → X → Bool
  by_then rest a b = nat_lt (f a) (f b) || (f a == f b && rest a b)

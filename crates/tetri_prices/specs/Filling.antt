-- Taking nodes from the cheapest.
use Rattle.std.specs.Prelude.{ℕ, ◌+◌, ◌*◌, ◌-◌, min, nat_lt, List, [], ◌∷◌}
use Rattle.tetri_base.specs.Order.{in_order}

-- `cost` is what one node of a place costs, and `capacity` how many nodes of it there are to take
module _ {X : Type 0} (cost capacity : X → ℕ) where
  -- the places by ascending cost
  abbrev pub by_cost : List X → List X
  by_cost ps = in_order (λ p q. nat_lt (cost p) (cost q)) ps

  -- what so many nodes cost, taken from each place in turn as far as its capacity goes
  abbrev pub fill : ℕ → List X → ℕ
  fill k [] = 0
  fill k (p ∷ ps) = min k (capacity p) * cost p + fill (k - capacity p) ps

  -- what at most so many nodes bring above their costs, where each brings `each`
  abbrev pub pick : ℕ → ℕ → List X → ℕ
  pick each k [] = 0
  pick each k (p ∷ ps) =
      min k (capacity p) * (each - cost p) + pick each (k - capacity p) ps

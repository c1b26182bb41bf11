-- What asking and teaching a panel leaves of those that sit.
use Rattle.std.specs.Prelude.{◌≡◌, ◌+◌, ◌<◌, ◌≤◌, List, [], ◌∷◌, ◌++◌, Bool, true, false}
use Rattle.tetri_algebra.specs.Counts.{Rose}
use Rattle.tetri_strl.specs.declared.grants.Grant.{Grant}
use Rattle.tetri_space.specs.Lawful.{IsLawful}
use Rattle.tetri_space.specs.Space.{Space}
use Rattle.tetri_advice.specs.Seat.{Seat, Tells}

-- an advisor that stays, before and after it was asked: it keeps its creed, and its misses never fall
pub record Stays (s : Space) (a b : Seat) : Type 0 where
  pub creed : b.creed ≡ a.creed
  pub later : a.misses ≤ b.misses
  pub told : Tells s a

-- The advisors that sat, which of them were heard, what was given, and the advisors that sit afterwards, in seating order. Each was
-- heard and said what is lawful, which was given and cleared its strikes; or was heard, said what is not lawful and has a strike more;
-- or left so at its third strike; or was not heard, and then its misses rose and its strikes are as before.
pub data Asked (s : Space) : List Seat → List Bool → List (List Grant) → List Seat → Type 0 where
  nobody : Asked s [] [] [] []
  gave : (sat : List Seat) (heard : List Bool) (given : List (List Grant)) (sits : List Seat) (a b : Seat) → Asked s sat heard given sits →
      Stays s a b → IsLawful s (a.says s) → b.strikes ≡ 0 → Asked s (sat ++ a ∷ []) (heard ++ true ∷ []) (given ++ a.says s ∷ []) (sits ++ b ∷ [])
  struck : (sat : List Seat) (heard : List Bool) (given : List (List Grant)) (sits : List Seat) (a b : Seat) → Asked s sat heard given sits →
      Stays s a b → (IsLawful s (a.says s) → ⊥) → a.strikes < 2 → b.strikes ≡ a.strikes + 1 → Asked s (sat ++ a ∷ []) (heard ++ true ∷ []) given (sits ++ b ∷ [])
  left : (sat : List Seat) (heard : List Bool) (given : List (List Grant)) (sits : List Seat) (a : Seat) → Asked s sat heard given sits →
      Tells s a → (IsLawful s (a.says s) → ⊥) → 2 ≤ a.strikes → Asked s (sat ++ a ∷ []) (heard ++ true ∷ []) given sits
  missed : (sat : List Seat) (heard : List Bool) (given : List (List Grant)) (sits : List Seat) (a b : Seat) → Asked s sat heard given sits →
      Stays s a b → Rose a.misses b.misses → b.strikes ≡ a.strikes → Asked s (sat ++ a ∷ []) (heard ++ false ∷ []) given (sits ++ b ∷ [])

-- an advisor before and after it was taught
pub record Learned (a b : Seat) : Type 0 where
  pub strikes : b.strikes ≡ a.strikes
  pub creed : b.creed ≡ a.creed
  pub later : a.misses ≤ b.misses

-- the advisors before and after they were taught, in seating order
abbrev pub Taught : List Seat → List Seat → Type 0
Taught [] [] = Unit {0}
Taught [] (b ∷ bs) = ⊥
Taught (a ∷ sat) [] = ⊥
Taught (a ∷ sat) (b ∷ sits) = Learned a b × Taught sat sits

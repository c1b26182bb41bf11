-- Who sits in a panel, as plain data.
use Rattle.std.specs.Prelude.{◌≡◌, ℕ, List, [], ◌∷◌, length, Option, IfSome}
use Rattle.tetri_base.specs.Lists.{with_first}
use Rattle.tetri_strl.specs.declared.grants.Grant.{Grant}
use Rattle.tetri_space.specs.Space.{Space}
use Rattle.tetri_advice.specs.Creeds.{IsListed}
use Rattle.tetri_advice.specs.declared.creed.Creed.{Creed}

-- an advisor as it stands: what it says of each instance, its count of misses, the creed that it tells, if any, and its strikes
pub record Seat : Type 0 where
  pub says : Space → List Grant
  pub misses : ℕ
  pub creed : Option Creed
  pub strikes : ℕ

-- where it tells a creed, an advisor says that creed's list of the instance, which is lawful
abbrev pub Tells : Space → Seat → Type 0
Tells s a = IfSome a.creed (IsListed s (a.says s))

-- the creeds that are told, in seating order
abbrev pub creeds_of : List Seat → List Creed
creeds_of [] = []
creeds_of (a ∷ as') = with_first a.creed (creeds_of as')

-- each advisor tells a creed
abbrev pub AllTell : List Seat → Type 0
AllTell seats = length (creeds_of seats) ≡ length seats

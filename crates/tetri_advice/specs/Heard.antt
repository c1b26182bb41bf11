-- Whom a cycle hears of those that sat as a run began.
use Rattle.std.specs.Prelude.{◌≡◌, ◌≤◌, ℕ, List, [], ◌∷◌, All, Bool, true, false, Contains, length, map}
use Rattle.tetri_algebra.specs.Counts.{Rose}
use Rattle.tetri_strl.specs.declared.grants.Grant.{Grant}
use Rattle.tetri_space.specs.Lawful.{IsLawful}
use Rattle.tetri_space.specs.Space.{Space}
use Rattle.tetri_advice.specs.Creeds.{greedy_list}
use Rattle.tetri_advice.specs.Seat.{AllTell, Seat, creeds_of}

-- what the advisor says is given, where it is lawful
abbrev pub IsGiven : Space → List (List Grant) → Seat → Type 0
IsGiven s given a = IsLawful s (a.says s) → Contains given (a.says s)

-- a fact of each advisor that was heard
abbrev pub EachHeard : (Seat → Type 0) → List Seat → List Bool → Type 0
EachHeard P [] [] = Unit {0}
EachHeard P [] (h ∷ heard) = ⊥
EachHeard P (a ∷ sat) [] = ⊥
EachHeard P (a ∷ sat) (true ∷ heard) = P a × EachHeard P sat heard
EachHeard P (a ∷ sat) (false ∷ heard) = EachHeard P sat heard

-- Of the advisors that sat as a run began, with the panel's count of misses then and now, the instance of one cycle and what was
-- given in it: with nobody nothing is given; and where nobody was missed, the list of each creed is given, exactly these lists where
-- all tell a creed, and in the cycle of slot 0 all that is lawful of what they said as the run began.
pub record Heard (sat : List Seat) (before now : ℕ) (s : Space) (given : List (List Grant)) : Type 0 where
  pub nobody : sat ≡ [] → given ≡ []
  pub creeds : AllTell sat → (Rose before now → ⊥) → given ≡ map (λ c. greedy_list c s) (creeds_of sat)
  pub each : (Rose before now → ⊥) → All (λ c. Contains given (greedy_list c s)) (creeds_of sat)
  pub first : s.now ≡ 0 → (Rose before now → ⊥) → All (IsGiven s given) sat

-- who sits as the cycle of this number begins, of those that sat as the run began
pub record StillSit (sat : List Seat) (number : ℕ) (sits : List Seat) : Type 0 where
  pub creeds : creeds_of sits ≡ creeds_of sat
  pub fewer : length sits ≤ length sat
  pub first : number ≡ 0 → sits ≡ sat

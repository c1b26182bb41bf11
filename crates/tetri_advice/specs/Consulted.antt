-- A panel that was asked once and then taught.
use Rattle.std.specs.Prelude.{◌≡◌, ℕ, ◌+◌, ◌-◌, ◌^◌, List, Bool, count_by, not, min}
use Rattle.tetri_strl.specs.declared.grants.Grant.{Grant}
use Rattle.tetri_space.specs.Space.{Space}
use Rattle.tetri_advice.specs.Asked.{Asked, Taught}
use Rattle.tetri_advice.specs.Seat.{Seat}

-- The advisors that sat and the panel's count of misses, which of them were heard of this instance, what was given, and the
-- advisors and the count afterwards.
pub record Consulted (s : Space) (sat : List Seat) (before : ℕ) (heard : List Bool) (given : List (List Grant)) (sits : List Seat) (now : ℕ) : Type 0 where
  pub asked_sits : List Seat
  pub asked : Asked s sat heard given asked_sits
  pub taught : Taught asked_sits sits
  pub missed : now ≡ min (before + count_by not heard) (2 ^ 64 - 1)

-- The seats of a panel, by the members of its advisors' trait.
use Rattle.std.specs.Prelude.{ℕ, List, map, Option}
use Rattle.tetri_strl.specs.declared.grants.Grant.{Grant}
use Rattle.tetri_space.specs.Space.{Space}
use Rattle.tetri_advice.specs.Seat.{Seat}
use Rattle.tetri_advice.specs.declared.creed.Creed.{Creed}
use Rattle.tetri_advice.specs.declared.panel.PanelOf.{PanelOf}
use Rattle.tetri_advice.specs.declared.seated.Seated.{Seated}

module _ {V : Type 0} (says : V → Space → List Grant) (misses : V → ℕ) (creed : V → Option Creed) where
  -- an advisor with these strikes
  abbrev pub seat_at : V → ℕ → Seat
  seat_at one strikes = record { says = says one; misses = misses one; creed = creed one; strikes = strikes }

  abbrev pub seat_of : Seated V → Seat
  seat_of a = seat_at a.one a.strikes

  -- who sits in a panel, in seating order
  abbrev pub seats : PanelOf V → List Seat
  seats p = map seat_of p.seats.items

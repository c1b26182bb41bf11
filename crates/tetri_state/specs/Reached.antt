-- Which states a run of a trace reaches.
use Rattle.std.specs.Prelude.{◌≡◌, ◌<◌, List, [], ◌∷◌}
use Rattle.tetri_strl.specs.declared.grants.Grant.{Grant}
use Rattle.tetri_space.specs.Lawful.{IsLawful}
use Rattle.tetri_trace.specs.Scenario.{Scenario}
use Rattle.tetri_state.specs.After.{after}
use Rattle.tetri_state.specs.Begin.{begin}
use Rattle.tetri_space.specs.Trimmed.{IsThriftyForAll}
use Rattle.tetri_state.specs.Planning.{instance_of}
use Rattle.tetri_state.specs.Snapshot.{Snapshot, opening_state}

-- the state after cycles with these plans, the last one first
abbrev pub state_after : Scenario → List (List Grant) → Snapshot
state_after t [] = opening_state t
state_after t (a ∷ earlier) = after t (begin t (state_after t earlier)) a

-- a cycle may plan these grants in this state
pub record IsPlan (t : Scenario) (s : Snapshot) (a : List Grant) : Type 0 where
  pub lawful : IsLawful (instance_of t s) a
  pub thrifty : IsThriftyForAll (instance_of t s) a

-- for each of the plans there is a cycle, which may plan so
abbrev pub ArePlans : Scenario → List (List Grant) → Type 0
ArePlans t [] = Unit {0}
ArePlans t (a ∷ earlier) =
    ((state_after t earlier).now < t.header.until) × IsPlan t (begin t (state_after t earlier)) a × ArePlans t earlier

-- a state stands between two cycles, or its slot has begun
pub data Moment : Type 0 where
  between : Moment
  begun : Moment

-- the state at this moment, where this one was left by the last cycle
abbrev pub IsThen : Scenario → Moment → Snapshot → Snapshot → Type 0
IsThen t between s last = s ≡ last
IsThen t begun s last = (last.now < t.header.until) × (s ≡ begin t last)

-- a run of the trace comes to this state
pub record IsReached (t : Scenario) (m : Moment) (s : Snapshot) : Type 0 where
  pub plans : List (List Grant)
  pub are_plans : ArePlans t plans
  pub is : IsThen t m s (state_after t plans)

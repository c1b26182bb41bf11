-- What plans cycles, and how cycles are told.
use Rattle.std.specs.Prelude.{ℕ, List}
use Rattle.tetri_state.specs.Snapshot.{Snapshot}
use Rattle.tetri_strl.specs.declared.grants.Grant.{Grant}
use Rattle.tetri_trace.specs.Scenario.{Scenario}

-- A kind of cycle: its plain value, the grants of its plan, 1 where the plan is optimal, else 0, and the texts that tell of it in one way
-- or another where it begins in a state of a trace.
pub record Kind (Telling : Type 0) : Type 1 where
  pub Cycle : Type 0
  pub grants : Cycle → List Grant
  pub optimal : Cycle → ℕ
  pub Tells : Telling → Scenario → Snapshot → Cycle → List ℕ → Type 0

-- How a planner plans: the kind of its cycles, the cycle that it plans in a state of a trace, as it stood before and as it stands
-- behind it, and what it may have become, whether it planned the cycle or had no memory for it.
pub record Planning (Planner Telling : Type 0) : Type 1 where
  pub kind : Kind Telling
  pub Plans : Planner → Planner → Scenario → Snapshot → kind.Cycle → Type 0
  pub Follows : Planner → Planner → Type 0

-- A cycle that is ready.
use Rattle.std.specs.Prelude.{◌≡◌}
use Rattle.tetri_state.specs.Begin.{begin}
use Rattle.tetri_state.specs.Launch.{worth_launched}
use Rattle.tetri_state.specs.Planning.{instance_at}
use Rattle.tetri_state.specs.Readied.{Fits, IsLaunchOf}
use Rattle.tetri_state.specs.Snapshot.{Snapshot}
use Rattle.tetri_trace.specs.Scenario.{Scenario}
use Rattle.tetri_cycles.specs.Planning.{Planning}
use Rattle.tetri_cycles.specs.declared.planner.Ready.{Ready}

-- A cycle that the planner plans is ready, in the state in which it begins: the text that tells of it, its launch, and its numbers.
pub record IsReady {Planner Telling : Type 0} (p : Planning Planner Telling) (telling : Telling) (before now : Planner) (t : Scenario) (old : Snapshot) (r : Ready) : Type 0 where
  pub cycle : p.kind.Cycle
  pub planned : p.Plans before now t old cycle
  pub told : p.kind.Tells telling t old cycle r.text.items
  pub launch : IsLaunchOf t (begin t old) (p.kind.grants cycle) r.prepared
  pub fits : Fits (begin t old) r.prepared
  pub worth : r.tally.worth ≡ worth_launched (instance_at t old) (p.kind.grants cycle)
  pub optimal : r.tally.optimal ≡ p.kind.optimal cycle

-- Runs whose plans anything chose that chooses good and certified ones.
use Rattle.std.specs.Prelude.{List, AllPairs}
use Rattle.tetri_cycles.specs.Planning.{Planning}
use Rattle.tetri_plan.specs.Plans.{IsPrintableTree}
use Rattle.tetri_report.specs.Block.{Block}
use Rattle.tetri_report.specs.Printable.{IsInRange}
use Rattle.tetri_space.specs.GrantOrder.{ComesBefore}
use Rattle.tetri_state.specs.Snapshot.{Snapshot}
use Rattle.tetri_trace.specs.Scenario.{Scenario}
use Rattle.tetri_run.specs.Cycle.{IsBoundedCycle, IsCycle}
use Rattle.tetri_run.specs.Run.{IsRunOf}
use Rattle.tetri_run.specs.Telling.{block_cycles}
use Rattle.tetri_run.specs.declared.telling.Telling.{Telling}

-- A cycle that can be told: it is one of a run, no lawful allotment is worth more than its bound,
-- its grants go by job and leaf, its certificate may be printed, and its numbers are within the
-- ranges of their lines.
pub record IsToldCycle (t : Scenario) (s : Snapshot) (b : Block) : Type 0 where
  pub cycle : IsCycle t s b
  pub bounded : IsBoundedCycle t s b
  pub ordered : AllPairs ComesBefore b.grants
  pub printable : IsPrintableTree b.certificate
  pub in_range : IsInRange b

-- a run of such cycles
abbrev pub IsChosenRun : Scenario → List Block → Type 0
IsChosenRun = IsRunOf IsToldCycle

-- how a chooser plans
abbrev pub by_chooser : {Planner : Type 0} → Planning Planner Telling
by_chooser = record {
  kind = block_cycles;
  Plans = λ before now t s b. IsToldCycle t s b;
  Follows = λ before now. Unit {0};
}

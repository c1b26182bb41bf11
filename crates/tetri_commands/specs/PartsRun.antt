-- A run whose cycles are planned part by part, one a slot, from the opening state on. Lists of cycles have the last one first.
use Rattle.std.specs.Prelude.{◌≡◌, ℕ, List, Option}
use Rattle.tetri_cycles.specs.Cycles.{AreCycles}
use Rattle.tetri_cycles.specs.Planning.{Kind, Planning}
use Rattle.tetri_cycles.specs.Told.{StoppedBetween, StoppedInText, WroteRun}
use Rattle.tetri_trace.specs.Scenario.{Scenario}
use Rattle.tetri_commands.specs.PartsCycle.{IsPartsCycle, PartsCycle, optimal_count}
use Rattle.tetri_commands.specs.PartsText.{parts_cycle_text}

-- Cycles that are planned part by part, told by their lines: optimal where the sums of values and of bounds are equal.
abbrev pub parts_cycles : Kind (Unit {0})
parts_cycles = record {
  Cycle = PartsCycle;
  grants = λ c. c.grants;
  optimal = λ c. optimal_count c.parts;
  Tells = λ telling t s c text. text ≡ parts_cycle_text t c;
}

-- whoever plans so keeps nothing between cycles
abbrev pub by_parts : {Planner : Type 0} → Planning Planner (Unit {0})
by_parts = record {
  kind = parts_cycles;
  Plans = λ before now t s c. IsPartsCycle t s c;
  Follows = λ before now. Unit {0};
}

-- each of the cycles begins before the end of the trace, in the state that the earlier ones leave, and is planned part by part there
abbrev pub IsPartsRun : Scenario → List PartsCycle → Type 0
IsPartsRun = AreCycles parts_cycles IsPartsCycle

-- the report of a whole run was written
abbrev pub WroteParts : Scenario → Option (List ℕ) → Option (List ℕ) → Type 0
WroteParts = WroteRun parts_cycles tt IsPartsRun

-- the run stopped behind some cycles, in their next text
abbrev pub StoppedInPartsText : Scenario → Option (List ℕ) → Option (List ℕ) → Type 0
StoppedInPartsText = StoppedInText parts_cycles tt IsPartsRun

-- the run stopped between two texts
abbrev pub StoppedBetweenParts : Scenario → Option (List ℕ) → Option (List ℕ) → Type 0
StoppedBetweenParts = StoppedBetween parts_cycles tt IsPartsRun

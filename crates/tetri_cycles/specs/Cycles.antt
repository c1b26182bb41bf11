-- Cycles of a run: one a slot, from the opening state on. Lists of cycles have the last one first.
use Rattle.std.specs.Prelude.{◌<◌, ℕ, ◌+◌, List, [], ◌∷◌, map, length}
use Rattle.tetri_report.specs.declared.cycle.Summary.{Summary}
use Rattle.tetri_state.specs.Launch.{worth_launched}
use Rattle.tetri_state.specs.Planning.{instance_at}
use Rattle.tetri_state.specs.Reached.{state_after}
use Rattle.tetri_state.specs.Snapshot.{Snapshot}
use Rattle.tetri_trace.specs.Scenario.{Scenario}
use Rattle.tetri_cycles.specs.Planning.{Kind}

module _ {Telling : Type 0} (k : Kind Telling) where
  -- the state in which the next cycle begins
  abbrev pub state_behind_cycles : Scenario → List k.Cycle → Snapshot
  state_behind_cycles t past = state_after t (map k.grants past)

  -- each of the cycles begins before the end of the trace, and is such a cycle in the state that the earlier ones leave
  abbrev pub AreCycles : (Scenario → Snapshot → k.Cycle → Type 0) → Scenario → List k.Cycle → Type 0
  AreCycles IsSuch t [] = Unit {0}
  AreCycles IsSuch t (c ∷ past) =
      ((state_behind_cycles t past).now < t.header.until) × IsSuch t (state_behind_cycles t past) c × AreCycles IsSuch t past

  -- what the launched jobs were worth at their launch
  abbrev pub worth_of_cycles : Scenario → List k.Cycle → ℕ
  worth_of_cycles t [] = 0
  worth_of_cycles t (c ∷ past) = worth_of_cycles t past + worth_launched (instance_at t (state_behind_cycles t past)) (k.grants c)

  -- how many cycles have an optimal plan
  abbrev pub optimal_in : List k.Cycle → ℕ
  optimal_in [] = 0
  optimal_in (c ∷ past) = optimal_in past + k.optimal c

  -- the run in numbers
  abbrev pub summary_of_cycles : Scenario → List k.Cycle → Summary
  summary_of_cycles t past =
      let s = state_behind_cycles t past in
      record {
        cycles = length past;
        launched = length s.launched;
        ended = length s.ended;
        cancelled = length s.cancelled;
        expired = length s.expired;
        worth = worth_of_cycles t past;
        optimal = optimal_in past;
      }

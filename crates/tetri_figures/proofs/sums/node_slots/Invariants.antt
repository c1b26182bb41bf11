use Rattle.std.proofs.Common.{◌≡◌, ◌+◌, ◌≤◌, drop}
use Rattle.std.specs.Prelude.{min, option_map}
use Rattle.tetri_base.specs.Lists.{sum_of}
use Rattle.tetri_figures.specs.Figures.{most, picked, row_slots}
use Rattle.tetri_trace.specs.Scenario.{scenario}
use Rattle.tetri_figures.proofs.sums.node_slots.Given as goal

abbrev pub invariant-loop-place : goal.invariant-loop-place
invariant-loop-place l = record {
  told : min (l.sum + sum_of (row_slots (scenario l.trace) (option_map (λ m. m.now) l.counted)) (picked (drop l.place l.marks) (drop l.place l.rows))) most
      ≡ min (sum_of (row_slots (scenario l.trace) (option_map (λ m. m.now) l.counted)) (picked l.marks l.rows)) most;
  few : l.sum ≤ most;
}

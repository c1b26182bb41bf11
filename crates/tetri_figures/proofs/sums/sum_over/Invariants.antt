use Rattle.std.proofs.Common.{◌≡◌, ◌+◌, ◌*◌, ◌≤◌, ◌^◌, drop}
use Rattle.tetri_base.specs.Lists.{sum_of}
use Rattle.tetri_figures.specs.Figures.{part_of, picked}
use Rattle.tetri_trace.specs.Scenario.{scenario}
use Rattle.tetri_figures.proofs.sums.sum_over.Given as goal

abbrev pub invariant-loop-place : goal.invariant-loop-place
invariant-loop-place l = record {
  told : l.sum + sum_of (part_of (scenario l.trace) l.part) (picked (drop l.place l.marks) (drop l.place l.rows)) ≡ sum_of (part_of (scenario l.trace) l.part) (picked l.marks l.rows);
  small : l.sum ≤ l.place * 2 ^ 64;
}

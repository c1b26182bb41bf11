use Rattle.std.proofs.Common.{◌≡◌, drop}
use Rattle.std.specs.Prelude.{max}
use Rattle.tetri_figures.specs.Figures.{greatest_of, part_of, picked}
use Rattle.tetri_trace.specs.Scenario.{scenario}
use Rattle.tetri_figures.proofs.sums.greatest_wait.Given as goal

abbrev pub invariant-loop-place : goal.invariant-loop-place
invariant-loop-place l =
    max l.greatest (greatest_of (part_of (scenario l.trace) l.part) (picked (drop l.place l.marks) (drop l.place l.rows)))
    ≡ greatest_of (part_of (scenario l.trace) l.part) (picked l.marks l.rows)

use Rattle.std.proofs.Common.{◌≡◌, ◌++◌, drop}
use Rattle.tetri_assign.specs.Assigned.{gathered}
use Rattle.tetri_assign.specs.steps.Gathering.{with_open}
use Rattle.tetri_assign.proofs.gathering.gather.Given as goal

abbrev pub invariant-loop-place : goal.invariant-loop-place
invariant-loop-place l = l.grants ++ with_open l.nodes (gathered (drop l.place l.held)) ≡ gathered l.held

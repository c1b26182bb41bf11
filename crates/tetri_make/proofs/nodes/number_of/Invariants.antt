use Rattle.std.proofs.Common.{◌≡◌}
use Rattle.tetri_make.specs.Generated.{spaced}
use Rattle.tetri_make.proofs.nodes.number_of.Given as goal

abbrev pub invariant-loop-place : goal.invariant-loop-place
invariant-loop-place l = l.set ≡ spaced l.nodes.first l.nodes.step l.place

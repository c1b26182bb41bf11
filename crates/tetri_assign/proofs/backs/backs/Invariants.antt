use Rattle.std.proofs.Common.{◌≡◌, map}
use Rattle.std.specs.List.{range_with_len}
use Rattle.tetri_assign.specs.steps.Taking.{back_at}
use Rattle.tetri_space.specs.Space.{space}
use Rattle.tetri_assign.proofs.backs.backs.Given as goal

abbrev pub invariant-loop-node : goal.invariant-loop-node
invariant-loop-node l = l.slots.items ≡ map (back_at (space l.inst)) (range_with_len 0 l.node)

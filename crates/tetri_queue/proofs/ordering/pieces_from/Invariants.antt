use Rattle.std.proofs.Common.{◌≡◌, ◌++◌, drop, map}
use Rattle.tetri_queue.specs.Orders.{launch_of}
use Rattle.tetri_queue.proofs.ordering.pieces_from.Given as goal

abbrev pub invariant-loop-place : goal.invariant-loop-place
invariant-loop-place l = l.pieces.items ++ map launch_of (drop l.place l.state.pieces) ≡ map launch_of (drop l.from l.state.pieces)

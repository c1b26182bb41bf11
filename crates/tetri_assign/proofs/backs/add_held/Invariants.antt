use Rattle.std.proofs.Common.{◌≡◌, ◌++◌, drop, map}
use Rattle.tetri_assign.specs.steps.Taking.{held_by}
use Rattle.tetri_assign.proofs.backs.add_held.Given as goal

abbrev pub invariant-loop-node : goal.invariant-loop-node
invariant-loop-node l = l.held.items ++ map (held_by l.want) (drop l.node-index l.nodes) ≡ l.fn.held.items ++ map (held_by l.want) l.nodes

use Rattle.std.proofs.Common.{◌≡◌, take}
use Rattle.tetri_strl.proofs.copy.copy_nodes.Given as goal

abbrev pub invariant-loop-node : goal.invariant-loop-node
invariant-loop-node l = l.made ≡ take l.node-index l.node-items

use Rattle.std.proofs.Common.{◌≡◌, take}
use Rattle.tetri_cluster.specs.Cluster.{names_of}
use Rattle.tetri_queue.proofs.confirming.same_nodes.Given as goal

abbrev pub invariant-loop-node : goal.invariant-loop-node
invariant-loop-node l = take l.node (names_of l.read) ≡ take l.node (names_of l.meant)

use Rattle.std.proofs.Common.{◌≡◌, take}
use Rattle.tetri_cluster.specs.Cluster.{names_of}
use Rattle.tetri_workload.proofs.confirming.same_names.Given as goal

abbrev pub invariant-loop-node : goal.invariant-loop-node
invariant-loop-node l = take l.node (names_of l.read) ≡ take l.node (names_of l.meant)

use Rattle.std.proofs.Common.{◌≡◌, map, take}
use Rattle.tetri_split.specs.Labels.{label_of}
use Rattle.tetri_split.proofs.labels.labels_of.Given as goal

abbrev pub invariant-loop-node : goal.invariant-loop-node
invariant-loop-node l = l.keys.items ≡ map (label_of l.labels) (take l.node-index l.nodes)

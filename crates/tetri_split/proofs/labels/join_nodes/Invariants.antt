use Rattle.std.proofs.Common.{take}
use Rattle.tetri_split.specs.Labels.{AreJoined, HaveOneLabel}
use Rattle.tetri_split.proofs.labels.join_nodes.Given as goal

abbrev pub invariant-loop-node : goal.invariant-loop-node
invariant-loop-node l = record {
  joined : AreJoined l.nodes l.initial.labels l.labels;
  one_label : HaveOneLabel l.labels (take l.node-index l.nodes);
}

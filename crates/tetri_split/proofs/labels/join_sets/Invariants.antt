use Rattle.std.proofs.Common.{take}
use Rattle.tetri_split.specs.Labels.{AreJoined, AreMarked, HaveOneLabel, IsOneOf, nodes_in}
use Rattle.tetri_split.proofs.labels.join_sets.Given as goal

abbrev pub invariant-loop-set : goal.invariant-loop-set
invariant-loop-set l = record {
  node : IsOneOf (nodes_in l.sets (take l.set-index l.numbers)) l.joined;
  joined : AreJoined (nodes_in l.sets l.numbers) l.initial.labels l.labels;
  one_label : HaveOneLabel l.labels (nodes_in l.sets (take l.set-index l.numbers));
  marked : AreMarked l.sets l.marks l.labels;
}

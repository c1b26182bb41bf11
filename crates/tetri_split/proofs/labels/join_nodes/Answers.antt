use Rattle.std.proofs.Common.{subst}
use Rattle.std.proofs.lemmas.List.{take_all}
use Rattle.tetri_split.specs.Labels.{HaveOneLabel}
use Rattle.tetri_split.proofs.LabelLemmas.{node_joined, node_one_label}
use Rattle.tetri_split.proofs.labels.join_nodes.Goals as goal

pub loop-node-preserved : goal.loop-node-preserved
loop-node-preserved c = record {
  joined = node_joined c.args.nodes.now c.args.labels.now c.loop-node.labels c.merge.new.labels c.loop-node.node-index c.loop-node-test.true c.requires
      c.loop-node.invariant.joined c.loop-node.invariant.one_label c.merge.ensures;
  one_label = node_one_label c.args.nodes.now c.args.labels.now c.loop-node.labels c.merge.new.labels c.loop-node.node-index c.loop-node-test.true c.requires
      c.loop-node.invariant.joined c.loop-node.invariant.one_label c.merge.ensures;
}

pub returns-clause-one_label : goal.returns-clause-one_label
returns-clause-one_label c =
    subst (HaveOneLabel c.loop-node.labels) (take_all c.loop-node.node-index c.args.nodes.now c.loop-node-test.false) c.loop-node.invariant.one_label

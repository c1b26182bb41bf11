use Rattle.std.proofs.Common.{◌<◌, ◌∙◌, [], length, take, get_or, ap, sym, arith}
use Rattle.tetri_cluster.specs.Cluster.{name_at}
use Rattle.tetri_queue.specs.Orders.{hosts_text, with_host}
use Rattle.tetri_queue.proofs.MoreLemmas.{all_more, fold_more}
use Rattle.tetri_queue.proofs.ordering.hosts_text.Goals as goal

pub loop-node-preserved : goal.loop-node-preserved
loop-node-preserved c =
    let nodes = c.args.nodes.now in
    let cluster = c.args.cluster.now in
    let i = c.loop-node.node-index in
    let here : get_or nodes i 0 < length cluster = omega (arith, c.count.ensures.value, c.if-count-node.false) in
    record {
      known = all_more (λ node. node < length cluster) nodes i 0 c.loop-node-test.true c.loop-node.invariant.known here;
      text = c.in_ok-add_host.ensures
          ∙ ap (λ t. with_host t c.text.result.now) c.loop-node.invariant.text
          ∙ ap (with_host (hosts_text cluster (take i nodes))) (c.text.ensures.value ∙ c.name_of.ensures)
          ∙ sym (fold_more (λ hosts node. with_host hosts (name_at cluster node)) [] nodes i 0 c.loop-node-test.true);
    }

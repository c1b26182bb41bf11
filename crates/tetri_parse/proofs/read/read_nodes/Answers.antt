use Rattle.std.proofs.Common.{length}
use Rattle.tetri_parse.specs.SetText.{nodes_in}
use Rattle.tetri_parse.proofs.NodeSets.{nodes_in_good}
use Rattle.tetri_parse.proofs.Outcomes.{set_within, nodes_known}
use Rattle.tetri_parse.proofs.read.read_nodes.Goals as goal

pub returns-clause-within : goal.returns-clause-within
returns-clause-within c =
    let nodes = c.args.cluster.now in
    set_within _ (length nodes) (nodes_in nodes c.in_ok-set.set.now) c.args.sets.now c.set_named.new.sets c.set_named.result c.set_named.ensures.value c.set_named.ensures.err (nodes_known (length nodes) (nodes_in nodes c.in_ok-set.set.now) (nodes_in_good nodes c.in_ok-set.set.now))

use Rattle.std.proofs.Common.{◌∙◌, sym, length-set}
use Rattle.tetri_hosts.proofs.NodeLemmas.{names-kept}
use Rattle.tetri_hosts.proofs.nodes.Gathered.merge.Goals as goal

pub invariant_of-self : goal.invariant_of-self
invariant_of-self c =
    (c.self.invariant.0 ∙ sym (names-kept c.self.inside.nodes.items c.args.place c.index_mut-node.result.now c.add_tags.new.tags c.index_mut-node.ensures.value), simp length-set c.self.invariant.1)

pub invariant_of-self-2 : goal.invariant_of-self-2
invariant_of-self-2 c =
    (c.self.invariant.0 ∙ sym (names-kept c.self.inside.nodes.items c.args.place c.index_mut-node.result.now c.add_tags.new.tags c.index_mut-node.ensures.value), simp length-set c.self.invariant.1)

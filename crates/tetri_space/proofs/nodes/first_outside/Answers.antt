use Rattle.std.proofs.Common.{Contains, sym, rules}
use Rattle.std.proofs.lemmas.List.{take_all}
use Rattle.std.proofs.lemmas.List.Elements.{All-more, All-same}
use Rattle.tetri_space.specs.Space.{space, set_of}
use Rattle.tetri_space.proofs.NodeLemmas.{least_failing}
use Rattle.tetri_space.proofs.nodes.first_outside.Goals as goal

pub returns-then-not-holds : goal.returns-then-not-holds
returns-then-not-holds c =
    least_failing (Contains (set_of (space c.args.inst.now) c.args.leaf.now)) c.args.nodes.now c.loop-node.node-index c.requires.ascending
    c.loop-node-test.true c.loop-node.invariant (search rules)

pub loop-node-preserved : goal.loop-node-preserved
loop-node-preserved c =
    All-more (Contains (set_of (space c.args.inst.now) c.args.leaf.now)) c.args.nodes.now c.loop-node.node-index 0 c.loop-node-test.true c.loop-node.invariant
    (search rules)

pub returns : goal.returns
returns c =
    All-same (Contains (set_of (space c.args.inst.now) c.args.leaf.now)) c.args.nodes.now _ (sym (take_all c.loop-node.node-index c.args.nodes.now c.loop-node-test.false))
    c.loop-node.invariant

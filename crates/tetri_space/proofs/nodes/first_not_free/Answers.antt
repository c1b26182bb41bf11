use Rattle.std.proofs.Common.{sym}
use Rattle.std.proofs.lemmas.List.{take_all}
use Rattle.std.proofs.lemmas.List.Elements.{All-more, All-same}
use Rattle.std.proofs.lemmas.Bool.{iff_false}
use Rattle.tetri_space.specs.Free.{IsFreeThroughout}
use Rattle.tetri_space.specs.Space.{space}
use Rattle.tetri_space.proofs.NodeLemmas.{least_failing}
use Rattle.tetri_space.proofs.nodes.first_not_free.Goals as goal

pub returns-then-not-free_throughout : goal.returns-then-not-free_throughout
returns-then-not-free_throughout c =
    least_failing (IsFreeThroughout (space c.args.inst.now) c.args.leaf.now) c.args.nodes.now c.loop-node.node-index c.requires.ascending
    c.loop-node-test.true c.loop-node.invariant
    (λ free. iff_false c.free_throughout.ensures c.if-not-free_throughout.true free)

pub loop-node-preserved : goal.loop-node-preserved
loop-node-preserved c =
    All-more (IsFreeThroughout (space c.args.inst.now) c.args.leaf.now) c.args.nodes.now c.loop-node.node-index 0 c.loop-node-test.true c.loop-node.invariant
    (c.free_throughout.ensures.0 c.if-not-free_throughout.false)

pub returns : goal.returns
returns c =
    All-same (IsFreeThroughout (space c.args.inst.now) c.args.leaf.now) c.args.nodes.now _ (sym (take_all c.loop-node.node-index c.args.nodes.now c.loop-node-test.false))
    c.loop-node.invariant

use Rattle.std.proofs.Common.{ℕ, ◌<◌, sym, arith}
use Rattle.tetri_parse.proofs.Every.{other_count, other_node, each_node, every_yes}
use Rattle.tetri_parse.proofs.printing.is_every.Goals as goal

pub returns-then-nodes-count : goal.returns-then-nodes-count
returns-then-nodes-count c = sym (other_count c.args.count c.args.nodes.now c.if-nodes-count.true)

pub returns-then-node-place : goal.returns-then-node-place
returns-then-node-place c = sym (other_node c.args.count c.args.nodes.now c.loop-place.place c.if-nodes-count.false c.loop-place-test.true c.if-node-place.true)

pub returns : goal.returns
returns c =
    let each = λ (k : ℕ) (lt : k < c.args.count). c.loop-place.invariant k (omega arith) in
    sym (every_yes c.args.count c.args.nodes.now (each_node c.args.count c.args.nodes.now c.if-nodes-count.false each))

use Rattle.tetri_space.proofs.SpanLemmas.{meets_begun, meets_later, meets_other, meets_over}
use Rattle.tetri_space.proofs.spans.meets.Goals as goal

pub returns-then-span-node : goal.returns-then-span-node
returns-then-span-node c = meets_other c.args.span.now c.args.node c.args.from c.args.count c.if-span-node.true

pub returns-then-from-span : goal.returns-then-from-span
returns-then-from-span c = meets_later c.args.span.now c.args.node c.args.from c.args.count c.if-span-node.false c.requires c.if-from-span.true

pub returns-then-span-from : goal.returns-then-span-from
returns-then-span-from c = meets_over c.args.span.now c.args.node c.args.from c.args.count c.if-span-from.true

pub returns : goal.returns
returns c = meets_begun c.args.span.now c.args.node c.args.from c.args.count c.if-span-node.false c.if-from-span.false c.if-span-from.false

use Rattle.tetri_dictionary.proofs.Starting.{slack_read, sizes_within}
use Rattle.tetri_dictionary.proofs.start.slack_at.Goals as goal

pub left_side-left-requires-clause-in_range : goal.left_side-left-requires-clause-in_range
left_side-left-requires-clause-in_range c = sizes_within c.args.p.now c.args.start.now c.args.row.now.terms.items c.args.row.now.right c.requires.start c.requires.row

pub overflow_sub-result : goal.overflow_sub-result
overflow_sub-result c = (slack_read c.args.p.now c.args.start.now c.args.row.now.terms.items c.args.row.now.right c.left_side-left.result c.requires.start c.requires.row c.left_side-left.ensures).fits

pub returns-clause-value : goal.returns-clause-value
returns-clause-value c = (slack_read c.args.p.now c.args.start.now c.args.row.now.terms.items c.args.row.now.right c.left_side-left.result c.requires.start c.requires.row c.left_side-left.ensures).value

pub returns-clause-within : goal.returns-clause-within
returns-clause-within c = (slack_read c.args.p.now c.args.start.now c.args.row.now.terms.items c.args.row.now.right c.left_side-left.result c.requires.start c.requires.row c.left_side-left.ensures).within

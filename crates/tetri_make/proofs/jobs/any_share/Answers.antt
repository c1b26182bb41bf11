use Rattle.std.proofs.Common.{◌∙◌}
use Rattle.tetri_strl.proofs.ExprLaws.{tree-One}
use Rattle.tetri_make.proofs.RequestLemmas.{request_by_third, sets_by_third}
use Rattle.tetri_make.proofs.jobs.any_share.Goals as goal

pub returns-clause-tree : goal.returns-clause-tree
returns-clause-tree c =
    let one = c.in_ok-every in
    tree-One _ ∙ request_by_third c.args.sets.now c.args.slot c.args.drawn.now one.every c.from.result c.from-2.result c.exact-leaf.result c.requires.shape one.ensures.number c.from.ensures c.from-2.ensures c.exact-leaf.ensures

pub returns-clause-sets : goal.returns-clause-sets
returns-clause-sets c =
    sets_by_third c.args.sets.now c.args.slot c.args.drawn.now c.number_of.new.sets c.requires.shape c.in_ok-every.ensures.sets

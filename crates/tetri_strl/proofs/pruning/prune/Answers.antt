use Rattle.tetri_strl.specs.Tree.{tree}
use Rattle.tetri_strl.proofs.PruneLemmas.{pruned_keeps_worth}
use Rattle.tetri_strl.proofs.pruning.prune.Goals as goal

pub returns-clause-worth : goal.returns-clause-worth
returns-clause-worth c = λ a job only. pruned_keeps_worth c.args.from c.args.to a job (tree c.args.e.now) c.requires only

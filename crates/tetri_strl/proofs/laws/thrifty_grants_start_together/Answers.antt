use Rattle.tetri_strl.specs.Thrifty.{held_leaves}
use Rattle.tetri_strl.specs.Tree.{tree}
use Rattle.tetri_strl.specs.Worth.{leaf_worth}
use Rattle.tetri_strl.proofs.OneStart.{one_held_start}
use Rattle.tetri_strl.proofs.laws.thrifty_grants_start_together.Goals as goal

pub returns : goal.returns
returns c = λ a job th. one_held_start (leaf_worth a job) (held_leaves a job) (tree c.args.e.now) c.requires th

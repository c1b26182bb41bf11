use Rattle.tetri_cert.proofs.ProperTreeLemmas.{bounds_proper_trees}
use Rattle.tetri_cert.proofs.laws.proper_trees_have_bounds.Goals as goal

pub returns : goal.returns
returns c = bounds_proper_trees

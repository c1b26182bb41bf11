use Rattle.tetri_claims.proofs.ProgramLemmas.{bounds_are_of_proper_trees}
use Rattle.tetri_claims.proofs.laws.bounds_are_of_proper_trees.Goals as goal

pub returns : goal.returns
returns c = bounds_are_of_proper_trees

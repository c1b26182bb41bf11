use Rattle.tetri_search.proofs.SameLemmas.{earned_trees_are_one}
use Rattle.tetri_search.proofs.laws.earned_trees_are_one.Goals as goal

pub returns : goal.returns
returns c = earned_trees_are_one

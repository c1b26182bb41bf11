use Rattle.tetri_search.proofs.ProperLemmas.{earned_is_proper}
use Rattle.tetri_search.proofs.laws.earned_trees_are_proper.Goals as goal

pub returns : goal.returns
returns c = earned_is_proper

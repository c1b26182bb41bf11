use Rattle.tetri_search.proofs.SpentLemmas.{earned_by_place}
use Rattle.tetri_search.proofs.laws.earned_by_place.Goals as goal

pub returns : goal.returns
returns c = earned_by_place

use Rattle.tetri_search.proofs.RiseLemmas.{wholes_rise}
use Rattle.tetri_search.proofs.laws.whole_points_rise.Goals as goal

pub returns : goal.returns
returns c = wholes_rise

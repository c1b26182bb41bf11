use Rattle.tetri_search.proofs.CountLemmas.{enough_leaves_no_rest}
use Rattle.tetri_search.proofs.laws.enough_leaves_no_rest.Goals as goal

pub returns : goal.returns
returns c = enough_leaves_no_rest

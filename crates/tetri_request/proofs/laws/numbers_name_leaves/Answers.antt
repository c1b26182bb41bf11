use Rattle.tetri_request.proofs.ExpiryLemmas.{one_leaf_by_number}
use Rattle.tetri_request.proofs.laws.numbers_name_leaves.Goals as goal

pub returns : goal.returns
returns c = one_leaf_by_number c.args.ask.now c.args.arrival

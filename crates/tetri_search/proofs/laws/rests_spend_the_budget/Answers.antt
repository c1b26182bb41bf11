use Rattle.tetri_search.proofs.SpentLemmas.{rests_spend_the_budget}
use Rattle.tetri_search.proofs.laws.rests_spend_the_budget.Goals as goal

pub returns : goal.returns
returns c = rests_spend_the_budget

use Rattle.tetri_plan.proofs.ChoiceLemmas.{chosen_plans_are_one}
use Rattle.tetri_plan.proofs.laws.chosen_plans_are_one.Goals as goal

pub returns : goal.returns
returns c = chosen_plans_are_one

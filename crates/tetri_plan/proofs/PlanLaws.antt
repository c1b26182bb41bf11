-- Laws that crates above cite.
pub use Rattle.tetri_plan.proofs.ChoiceLemmas.{chosen_plans_are_one}
pub use Rattle.tetri_plan.proofs.KeptLemmas.{carried_worth, chosen_bounds, given_bounds, kept_bounds, unfound_worth}

-- What holds of every tree of a search.
use Rattle.tetri_search.specs.Laws.{EarnedByPlace, EarnedIsProper, EarnedTreesAreOne, EnoughLeavesNoRest, RestsSpendTheBudget, WholesRise}
use Rattle.tetri_search.proofs.CountLemmas as counting
use Rattle.tetri_search.proofs.ProperLemmas as proper
use Rattle.tetri_search.proofs.RiseLemmas as rising
use Rattle.tetri_search.proofs.SameLemmas as same
use Rattle.tetri_search.proofs.SpentLemmas as spending

pub earned_is_proper : EarnedIsProper
earned_is_proper = proper.earned_is_proper

pub wholes_rise : WholesRise
wholes_rise = rising.wholes_rise

pub enough_leaves_no_rest : EnoughLeavesNoRest
enough_leaves_no_rest = counting.enough_leaves_no_rest

pub rests_spend_the_budget : RestsSpendTheBudget
rests_spend_the_budget = spending.rests_spend_the_budget

pub earned_by_place : EarnedByPlace
earned_by_place = spending.earned_by_place

pub earned_trees_are_one : EarnedTreesAreOne
earned_trees_are_one = same.earned_trees_are_one

use Rattle.std.proofs.Common.{length}
use Rattle.tetri_tables.proofs.fitness.+are_costs_in_range.Given as goal

abbrev pub decreases-are_costs_in_range : goal.decreases-are_costs_in_range
decreases-are_costs_in_range l = length l.costs.now

use Rattle.std.proofs.Common.{length}
use Rattle.tetri_tables.proofs.fitness.+are_of_rows.Given as goal

abbrev pub decreases-are_of_rows : goal.decreases-are_of_rows
decreases-are_of_rows l = length l.weights.now

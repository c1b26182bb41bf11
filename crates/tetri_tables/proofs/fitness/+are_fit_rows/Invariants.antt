use Rattle.std.proofs.Common.{length}
use Rattle.tetri_tables.proofs.fitness.+are_fit_rows.Given as goal

abbrev pub decreases-are_fit_rows : goal.decreases-are_fit_rows
decreases-are_fit_rows l = length l.rows.now

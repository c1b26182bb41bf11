use Rattle.std.proofs.Common.{length}
use Rattle.tetri_logs.proofs.early.add_samples.Given as goal

abbrev pub decreases-loop-line : goal.decreases-loop-line
decreases-loop-line l = length l.rest

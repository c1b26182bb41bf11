use Rattle.std.proofs.Common.{ℕ, ◌<◌}
use Rattle.tetri_ip.specs.Weighed.{weight_at}
use Rattle.tetri_tables.proofs.fitness.do_rows_ascend.Given as goal

abbrev pub invariant-loop-k : goal.invariant-loop-k
invariant-loop-k l = (a b : ℕ) → a < b → b < l.k → (weight_at l.weights a).row < (weight_at l.weights b).row

use Rattle.std.proofs.Common.{ℕ, ◌<◌}
use Rattle.tetri_ip.specs.Points.{column_at}
use Rattle.tetri_tables.proofs.fitness.do_columns_ascend.Given as goal

abbrev pub invariant-loop-k : goal.invariant-loop-k
invariant-loop-k l = (a b : ℕ) → a < b → b < l.k → column_at l.terms a < column_at l.terms b

use Rattle.std.proofs.Common.{◌≤◌, length}
use Rattle.tetri_logs.proofs.early.column_of.Given as goal

abbrev pub invariant-loop : goal.invariant-loop
invariant-loop l = l.begin ≤ length l.line

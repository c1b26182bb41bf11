use Rattle.std.proofs.Common.{◌≤◌}
use Rattle.tetri_cert.specs.Walks.{IsOver}
use Rattle.tetri_values.proofs.programs.walked.Given as goal

abbrev pub invariant-loop-mark : goal.invariant-loop-mark
invariant-loop-mark l = IsOver l.p l.walk × ((l.walk.node ≤ l.count) × (l.count ≤ 1000))

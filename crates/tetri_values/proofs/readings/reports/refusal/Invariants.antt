use Rattle.std.proofs.Common.{◌≤◌}
use Rattle.tetri_values.proofs.readings.reports.refusal.Given as goal

abbrev pub invariant-loop-line : goal.invariant-loop-line
invariant-loop-line l = (l.blocks.lines ≤ l.count) × (l.count ≤ 1000)

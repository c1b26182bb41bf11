use Rattle.std.proofs.Common.{◌≤◌}
use Rattle.tetri_values.proofs.readings.reports.report_of.Given as goal

abbrev pub invariant-loop-row : goal.invariant-loop-row
invariant-loop-row l = (l.blocks.lines ≤ l.count) × (l.count ≤ 1000)

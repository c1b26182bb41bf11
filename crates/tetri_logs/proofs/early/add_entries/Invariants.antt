use Rattle.std.proofs.Common.{◌≡◌}
use Rattle.tetri_logs.specs.Ahead.{AreAllAhead}
use Rattle.tetri_logs.proofs.early.add_entries.Given as goal

abbrev pub invariant-loop-entry : goal.invariant-loop-entry
invariant-loop-entry l = record {
  ahead : AreAllAhead l.early.ahead l.early.jobs.items;
  layout : l.early.ahead.layout ≡ l.initial.early.ahead.layout;
}

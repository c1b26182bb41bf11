use Rattle.std.proofs.Common.{◌≡◌, ◌+◌, ◌≤◌, length}
use Rattle.tetri_logs.specs.Ahead.{AreAllAhead}
use Rattle.tetri_logs.proofs.early.add_lines.Given as goal

abbrev pub invariant-loop-line : goal.invariant-loop-line
invariant-loop-line l = record {
  ahead : AreAllAhead l.early.ahead l.early.jobs.items;
  mixed : l.seats ≡ l.mixed;
  number : l.number + length l.rest ≤ length l.log;
}

abbrev pub decreases-loop-line : goal.decreases-loop-line
decreases-loop-line l = length l.rest

use Rattle.std.proofs.Common.{◌≡◌, length}
use Rattle.tetri_queue.proofs.queueing.add_reservations.Given as goal

abbrev pub invariant-loop-line : goal.invariant-loop-line
invariant-loop-line l = record { lines : length l.fates.items ≡ l.line-index; same : l.gathering.jobs.items ≡ l.initial.gathering.jobs.items }

use Rattle.std.proofs.Common.{◌≡◌, ◌+◌, length}
use Rattle.tetri_base.specs.Lists.{count}
use Rattle.tetri_queue.specs.Queues.{is_taken}
use Rattle.tetri_queue.proofs.queueing.add_lines.Given as goal

abbrev pub invariant-loop-line : goal.invariant-loop-line
invariant-loop-line l = record { lines : length l.fates.items ≡ l.line-index; taken : length l.gathering.jobs.items ≡ length l.initial.gathering.jobs.items + count is_taken l.fates.items }

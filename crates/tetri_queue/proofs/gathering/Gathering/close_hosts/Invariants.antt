use Rattle.std.proofs.Common.{◌≡◌}
use Rattle.tetri_queue.proofs.gathering.Gathering.close_hosts.Given as goal

abbrev pub invariant-loop-node : goal.invariant-loop-node
invariant-loop-node l = l.self.jobs.items ≡ l.initial.self.jobs.items

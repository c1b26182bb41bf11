use Rattle.std.proofs.Common.{◌+◌, ◌≤◌}
use Rattle.tetri_workload.specs.Head.{IsHead}
use Rattle.tetri_workload.proofs.head.head_of.Given as goal

abbrev pub invariant-loop-log : goal.invariant-loop-log
invariant-loop-log l = record {
  head : IsHead l.fn.walk.entries l.walk.entries l.log;
  few : l.log.comments + l.walk.bytes ≤ l.fn.walk.bytes;
}

abbrev pub decreases-loop-log : goal.decreases-loop-log
decreases-loop-log l = l.walk.bytes

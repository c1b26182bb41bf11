use Rattle.std.proofs.Common.{◌≡◌, ◌+◌, ◌≤◌, drop}
use Rattle.tetri_logs.specs.Tasks.{task_count}
use Rattle.tetri_logs.proofs.tasks.are_few.Given as goal

abbrev pub invariant-loop-run : goal.invariant-loop-run
invariant-loop-run l = record { same : l.count + task_count (drop l.run-index l.runs) ≡ task_count l.runs; few : l.count ≤ 100000 }

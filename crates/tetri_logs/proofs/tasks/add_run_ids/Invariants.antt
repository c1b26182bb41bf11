use Rattle.std.proofs.Common.{◌≡◌, ◌+◌, ◌*◌, ◌++◌, map}
use Rattle.std.specs.Prelude.{decimal}
use Rattle.std.specs.List.{range_with_len}
use Rattle.tetri_logs.proofs.tasks.add_run_ids.Given as goal

abbrev pub invariant-loop-k : goal.invariant-loop-k
invariant-loop-k l = l.ids ≡ l.initial.ids ++ map (λ k. l.front ++ decimal (l.run.first + k * l.run.step)) (range_with_len 0 l.k)

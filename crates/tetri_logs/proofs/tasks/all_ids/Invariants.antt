use Rattle.std.proofs.Common.{◌≡◌, take}
use Rattle.std.specs.Prelude.{flat_map}
use Rattle.tetri_logs.specs.Tasks.{run_ids}
use Rattle.tetri_logs.proofs.tasks.all_ids.Given as goal

abbrev pub invariant-loop-run : goal.invariant-loop-run
invariant-loop-run l = l.ids ≡ flat_map (run_ids l.front) (take l.run-index l.runs)

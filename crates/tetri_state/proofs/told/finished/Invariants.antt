use Rattle.std.proofs.Common.{◌≡◌, ◌++◌, drop}
use Rattle.tetri_state.specs.Begin.{finished}
use Rattle.tetri_state.proofs.told.finished.Given as goal

abbrev pub invariant-loop-place : goal.invariant-loop-place
invariant-loop-place l = l.jobs.items ++ finished l.running (drop l.place l.ended) ≡ finished l.running l.ended

use Rattle.std.proofs.Common.{◌≡◌, drop}
use Rattle.std.specs.Prelude.{max}
use Rattle.tetri_chart.specs.Slots.{last_wait}
use Rattle.tetri_chart.proofs.slots.last_wait.Given as goal

abbrev pub invariant-loop-wait : goal.invariant-loop-wait
invariant-loop-wait l = max l.end (last_wait (drop l.wait-index l.waits)) ≡ last_wait l.waits

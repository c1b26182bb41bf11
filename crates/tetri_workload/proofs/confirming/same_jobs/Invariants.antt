use Rattle.std.proofs.Common.{◌≡◌, map, take}
use Rattle.tetri_trace.specs.Scenario.{submission}
use Rattle.tetri_workload.specs.Saying.{bare}
use Rattle.tetri_workload.proofs.confirming.same_jobs.Given as goal

abbrev pub invariant-loop-i : goal.invariant-loop-i
invariant-loop-i l = map (λ j. bare l.mixed (submission j)) (take l.i l.read) ≡ map submission (take l.i l.meant)

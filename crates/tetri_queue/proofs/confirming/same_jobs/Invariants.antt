use Rattle.std.proofs.Common.{◌≡◌, map, take}
use Rattle.tetri_queue.specs.Queues.{wanted, wanted_of}
use Rattle.tetri_trace.specs.Scenario.{submission}
use Rattle.tetri_queue.proofs.confirming.same_jobs.Given as goal

abbrev pub invariant-loop-i : goal.invariant-loop-i
invariant-loop-i l = map (λ j. wanted_of l.sets (submission j)) (take l.i l.read) ≡ map wanted (take l.i l.meant)

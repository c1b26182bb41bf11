use Rattle.std.proofs.Common.{take}
use Rattle.tetri_workload.specs.Marks.{AreSecondsMarked}
use Rattle.tetri_workload.proofs.waiting.seconds_of.Given as goal

abbrev pub invariant-loop-job : goal.invariant-loop-job
invariant-loop-job l = AreSecondsMarked l.seconds (take l.job-index l.jobs)

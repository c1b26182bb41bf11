use Rattle.std.proofs.Common.{◌≡◌, drop}
use Rattle.tetri_logs.specs.Origin.{first_second}
use Rattle.tetri_logs.proofs.origin.first_second.Given as goal

abbrev pub invariant-loop-job : goal.invariant-loop-job
invariant-loop-job l = first_second l.settings l.jobs ≡ first_second l.settings (drop l.job-index l.jobs)

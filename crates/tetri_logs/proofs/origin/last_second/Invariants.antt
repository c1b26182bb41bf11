use Rattle.std.proofs.Common.{◌≡◌, ◌<◌, ◌^◌, drop}
use Rattle.tetri_logs.specs.Origin.{last_second}
use Rattle.tetri_logs.proofs.origin.last_second.Given as goal

abbrev pub invariant-loop-job : goal.invariant-loop-job
invariant-loop-job l = record { small : l.last < 2 ^ 33; same : last_second l.settings l.fn.second l.jobs ≡ last_second l.settings l.last (drop l.job-index l.jobs) }

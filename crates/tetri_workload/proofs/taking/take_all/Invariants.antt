use Rattle.std.proofs.Common.{◌≡◌, take}
use Rattle.tetri_workload.specs.Taking.{IsNoted, so_far, taken_all}
use Rattle.tetri_workload.proofs.taking.take_all.Given as goal

abbrev pub invariant-loop-job : goal.invariant-loop-job
invariant-loop-job l = record { tally : so_far l.taken ≡ taken_all l.settings (take l.job-index l.jobs); noted : IsNoted l.taken }

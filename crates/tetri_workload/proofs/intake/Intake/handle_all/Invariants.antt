use Rattle.std.proofs.Common.{◌≡◌, ◌++◌, List, take}
use Rattle.tetri_logs.specs.declared.entry.LoggedJob.{LoggedJob}
use Rattle.tetri_logs.specs.declared.options.Options.{Options}
use Rattle.tetri_workload.specs.Reading.{AreHandled}
use Rattle.tetri_workload.specs.Taking.{IsNoted}
use Rattle.tetri_workload.proofs.intake.Intake.handle_all.Given as goal

abbrev pub invariant-loop-job : goal.invariant-loop-job
invariant-loop-job l =
    let first = l.fn.self in
    record {
      noted : IsNoted l.self.taken;
      waiting : l.self.waiting ≡ first.waiting;
      handled : (o : Options) → (all rest : List LoggedJob) → AreHandled l.settings o all (take l.job-index l.jobs ++ rest) first → AreHandled l.settings o all rest l.self;
    }

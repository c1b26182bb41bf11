use Rattle.std.proofs.Common.{◌≡◌, ◌++◌, List, take}
use Rattle.tetri_logs.specs.declared.entry.LoggedJob.{LoggedJob}
use Rattle.tetri_logs.specs.declared.options.Options.{Options}
use Rattle.tetri_workload.specs.Reading.{AreHandled}
use Rattle.tetri_workload.specs.Taking.{IsNoted}
use Rattle.tetri_workload.specs.Listed.{jobs_at}
use Rattle.tetri_workload.proofs.intake.Intake.handle_each.Given as goal

abbrev pub invariant-loop-listed : goal.invariant-loop-listed
invariant-loop-listed l =
    let first = l.fn.self in
    record {
      noted : IsNoted l.self.taken;
      waiting : l.self.waiting ≡ first.waiting;
      handled : (o : Options) → (all rest : List LoggedJob) → AreHandled l.settings o all (jobs_at l.jobs (take l.listed-index l.order) ++ rest) first → AreHandled l.settings o all rest l.self;
    }

use Rattle.std.proofs.Common.{◌≡◌, ◌<◌, ◌^◌}
use Rattle.std.specs.Prelude.{Contains, IfSome, Some}
use Rattle.tetri_logs.specs.Options.{AreGood}
use Rattle.tetri_logs.specs.Origin.{begun_with}
use Rattle.tetri_logs.specs.declared.entry.LoggedJob.{LoggedJob}
use Rattle.tetri_workload.proofs.importing.begun_by.Given as goal

abbrev pub invariant-loop-job : goal.invariant-loop-job
invariant-loop-job l = record {
  begun : IfSome l.first (λ s. (job : LoggedJob) × Contains l.jobs job × (begun_with l.draft job.account ≡ Some s));
  good : IfSome l.first AreGood;
  small : IfSome l.first (λ s. s.origin < 2 ^ 33);
}

use Rattle.std.proofs.Common.{◌≡◌, sym, subst}
use Rattle.std.specs.Prelude.{◌↔◌, IsTrue, map}
use Rattle.tetri_trace.specs.Scenario.{submission}
use Rattle.tetri_workload.specs.Saying.{bare}
use Rattle.tetri_workload.proofs.SameLemmas.{twice}
use Rattle.tetri_workload.proofs.confirming.same_submissions.Goals as goal

pub returns : goal.returns
returns c = subst (λ xs. IsTrue c.same_jobs.result ↔ (xs ≡ map submission c.args.meant.now)) (sym (twice (bare c.args.mixed) submission c.args.read.now)) c.same_jobs.ensures

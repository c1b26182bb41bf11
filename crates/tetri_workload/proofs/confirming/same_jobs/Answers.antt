use Rattle.std.proofs.Common.{◌≡◌, ◌<◌, length, sym, subst}
use Rattle.std.specs.Prelude.{IsTrue, map, slice_index_or}
use Rattle.tetri_trace.specs.Scenario.{Submission, demand_of, submission}
use Rattle.tetri_workload.specs.Saying.{IsAsked, bare}
use Rattle.tetri_trace.specs.declared.trace.Job.{Job}
use Rattle.tetri_workload.proofs.SameLemmas.{image_at, same_at}
use Rattle.tetri_workload.proofs.confirming.same_jobs.Goals as goal

pub same_job-requires : goal.same_job-requires
same_job-requires c =
    let within : c.loop-i.i < length c.args.meant.now = subst (λ n. c.loop-i.i < n) c.if-read-meant.false c.loop-i-test.true in
    subst (λ j. IsAsked (demand_of j.work)) (sym c.index-meant-i.is) (image_at (λ u. IsAsked u.demand) submission c.args.meant.now c.loop-i.i c.index-meant-i.result c.requires within)

pub returns-then-not-same_job : goal.returns-then-not-same_job
returns-then-not-same_job c =
    let within : c.loop-i.i < length c.args.meant.now = subst (λ n. c.loop-i.i < n) c.if-read-meant.false c.loop-i-test.true in
    let read : Job → Submission = λ j. bare c.args.mixed (submission j) in
    let here : map read c.args.read.now ≡ map submission c.args.meant.now → read c.index-read-i.result ≡ submission c.index-meant-i.result = λ same.
    subst (λ j. read j ≡ submission c.index-meant-i.result) (sym c.index-read-i.is) (subst (λ j. read (slice_index_or c.args.read.now c.loop-i.i c.index-read-i.result) ≡ submission j) (sym c.index-meant-i.is)
    (same_at read submission c.args.read.now c.args.meant.now c.loop-i.i c.index-read-i.result c.index-meant-i.result same c.loop-i-test.true within)) in
    ((λ e. absurd (cc)), (λ same. subst IsTrue c.if-not-same_job.true (c.same_job.ensures.1 (here same))))

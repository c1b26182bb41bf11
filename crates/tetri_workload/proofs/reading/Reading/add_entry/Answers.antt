use Rattle.std.proofs.Common.{◌≡◌, ◌+◌, ◌∙◌, ◌++◌, ◌∷◌, [], ap, false, refl, rules, sym, subst, true}
use Rattle.std.specs.Prelude.{nat_lt}
use Rattle.tetri_logs.specs.Origin.{begun_at}
use Rattle.tetri_logs.specs.declared.entry.Entry.TheVariants.{Comment, Left}
use Rattle.tetri_workload.specs.Listed.{jobs_from}
use Rattle.tetri_workload.specs.Reading.{IsRead, jobs_of}
use Rattle.tetri_workload.specs.declared.reading.Reading.{Reading}
use Rattle.tetri_workload.proofs.EntryLemmas.{jobs_of-none, submit_of}
use Rattle.tetri_workload.proofs.ReadLemmas.{read-comment, read-job, read-left, read-met}
use Rattle.tetri_workload.proofs.reading.Reading.add_entry.Goals as goal

pub returns-in_ok-add-in-Job-clause-read : goal.returns-in_ok-add-in-Job-clause-read
returns-in_ok-add-in-Job-clause-read c = λ x at o es given.
    let nodes = c.args.nodes.now in
    let b = begun_at c.args.settings.now x in
    let q = c.args.self.now in
    let job = c.in_ok-job-in-Job.job in
    let added = c.in_ok-add-in-Job.ensures in
    let late : nat_lt (submit_of job) q.early.before ≡ false = search (rules, c.if-job-self.false) in
    let r : Reading = record { intake = c.add.new.self; left = q.left; facts = q.facts; comments = q.comments; early = q.early; met = q.met } in
    subst (λ e. IsRead b o nodes (es ++ e ∷ []) r) (sym c.in-Job.is)
    (read-job b o nodes es q r c.in-Job.job job given c.in_ok-job-in-Job.ensures.job late (record { left = refl; facts = refl; comments = refl }) refl refl
    (added.wanted given.wanted) (added.seconds given.seconds)
    (added.handled x at o (q.early.jobs.items ++ jobs_from q.early.before (jobs_of nodes es)) given.seconds given.wanted given.handled))

pub returns-then-job-self-clause-read : goal.returns-then-job-self-clause-read
returns-then-job-self-clause-read c = λ x at o es given.
    let nodes = c.args.nodes.now in
    let b = begun_at c.args.settings.now x in
    let q = c.args.self.now in
    let r = c.meet.new.self in
    let job = c.in_ok-job-in-Job.job in
    let met = c.in_ok-meet-in-Job.ensures in
    let early : nat_lt (submit_of job) q.early.before ≡ true = search (rules, c.if-job-self.true) in
    subst (λ e. IsRead b o nodes (es ++ e ∷ []) r) (sym c.in-Job.is)
    (read-met b o nodes es q r c.in-Job.job job given c.in_ok-job-in-Job.ensures.job early (record { left = ap (λ v. v.items) met.left; facts = met.facts; comments = met.comments }) met.intake
    met.early met.met)

pub returns-else-not-are_same-clause-read : goal.returns-else-not-are_same-clause-read
returns-else-not-are_same-clause-read c = λ x at o es given.
    let nodes = c.args.nodes.now in
    let b = begun_at c.args.settings.now x in
    let q = c.args.self.now in
    let fact = c.in-Comment.fact in
    let same : q.facts ≡ c.with_fact.result = c.are_same.ensures.0 (search (rules, c.if-not-are_same.false)) in
    let r : Reading = record { intake = q.intake; left = q.left; facts = q.facts; comments = q.comments + 1; early = q.early; met = q.met } in
    subst (λ e. IsRead b o nodes (es ++ e ∷ []) r) (sym c.in-Comment.is)
    (read-comment b o nodes es q r fact (jobs_of-none nodes (Comment fact ∷ []) refl) given refl refl refl refl (same ∙ c.with_fact.ensures) refl)

pub returns-in_ok-leave-in-Left-clause-read : goal.returns-in_ok-leave-in-Left-clause-read
returns-in_ok-leave-in-Left-clause-read c = λ x at o es given.
    let nodes = c.args.nodes.now in
    let b = begun_at c.args.settings.now x in
    let q = c.args.self.now in
    let reject = c.in-Left.reject in
    let left = c.in_ok-leave-in-Left.ensures in
    subst (λ e. IsRead b o nodes (es ++ e ∷ []) c.leave.new.self) (sym c.in-Left.is)
    (read-left b o nodes es q c.leave.new.self reject (jobs_of-none nodes (Left reject ∷ []) refl) given left.intake left.early left.met left.left left.facts left.comments)

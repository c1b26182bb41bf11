use Rattle.std.proofs.Common.{◌≡◌, ◌++◌, ◌∷◌, [], Ok, Some, ap, false, refl, rules, subst, sym, true}
use Rattle.std.specs.Prelude.{nat_lt}
use Rattle.tetri_logs.specs.Entry.{entries_in}
use Rattle.tetri_logs.specs.Origin.{begun_at}
use Rattle.tetri_logs.specs.declared.entry.Entries.TheVariants.{One}
use Rattle.tetri_logs.specs.declared.entry.Entry.TheVariants.{Job}
use Rattle.tetri_workload.specs.Kinds.{are_mixed}
use Rattle.tetri_workload.specs.Listed.{jobs_from}
use Rattle.tetri_workload.specs.Reading.{AreHandled, AreWanted, IsRead, jobs_of}
use Rattle.tetri_workload.specs.Waiting.{HasSeconds}
use Rattle.tetri_workload.specs.declared.reading.Reading.{Reading}
use Rattle.tetri_workload.proofs.EntryLemmas.{submit_of}
use Rattle.tetri_workload.proofs.ReadLemmas.{read-job, read-met, settled-alike}
use Rattle.tetri_workload.proofs.reading.Reading.passes.Goals as goal

pub returns-in_ok-passed-in-Ok-Some-One-Job-clause-read : goal.returns-in_ok-passed-in-Ok-Some-One-Job-clause-read
returns-in_ok-passed-in-Ok-Some-One-Job-clause-read c = λ passed.
    let s = c.args.settings.now in
    let nodes = c.args.nodes.now in
    let q = c.args.self.now in
    let i = q.intake in
    let j = c.passes.new.self in
    let r : Reading = record { intake = j; left = q.left; facts = q.facts; comments = q.comments; early = q.early; met = q.met } in
    let here = c.in-Ok-Some-One-Job in
    let job = here.job in
    let found = here.field-0-0 in
    let done = c.in_ok-passed-in-Ok-Some-One-Job.ensures in
    let whole : c.args.read.now ≡ Ok (Some found) = search (rules, here.is, here.field-0-is) in
    let one : found ≡ One (Job job) = search (rules, here.field-0-0-is, here.field-0-0-0-is) in
    let late : nat_lt (submit_of job) q.early.before ≡ false = search (rules, c.if-job-self.false) in
    let alike : are_mixed nodes ≡ false = search (rules, c.if-not-are_mixed.true, c.are_mixed.ensures) in (
      found,
      whole,
      λ x at o es given.
          let is : x ≡ s.origin = at (search (rules, c.if-known.true)) in
          let jobs = q.early.jobs.items ++ jobs_from q.early.before (jobs_of nodes es) in
          let before : AreHandled s o jobs i.waiting.held.items i = subst (λ n. AreHandled (begun_at s n) o jobs i.waiting.held.items i) is given.handled in
          let after : AreHandled (begun_at s x) o (jobs ++ job ∷ []) j.waiting.held.items j =
          subst (λ n. AreHandled (begun_at s n) o (jobs ++ job ∷ []) j.waiting.held.items j) (sym is) (done.handled passed o jobs given.seconds before) in
          subst (λ f. IsRead (begun_at s x) o nodes (es ++ entries_in f) r) (sym one)
          (read-job (begun_at s x) o nodes es q r job job given (settled-alike nodes job alike) late (record { left = refl; facts = refl; comments = refl }) refl refl
          (subst (λ w. AreWanted s w.held.items) (sym done.waiting) given.wanted)
          (subst HasSeconds (sym done.waiting) given.seconds)
          after),
    )

pub returns-then-job-self-clause-read : goal.returns-then-job-self-clause-read
returns-then-job-self-clause-read c = λ passed.
    let nodes = c.args.nodes.now in
    let q = c.args.self.now in
    let r = c.meet.new.self in
    let here = c.in-Ok-Some-One-Job in
    let job = here.job in
    let found = here.field-0-0 in
    let met = c.in_ok-meet-in-Ok-Some-One-Job.ensures in
    let whole : c.args.read.now ≡ Ok (Some found) = search (rules, here.is, here.field-0-is) in
    let one : found ≡ One (Job job) = search (rules, here.field-0-0-is, here.field-0-0-0-is) in
    let early : nat_lt (submit_of job) q.early.before ≡ true = search (rules, c.if-job-self.true) in
    let alike : are_mixed nodes ≡ false = search (rules, c.if-not-are_mixed.true, c.are_mixed.ensures) in (
      found,
      whole,
      λ x at o es given.
          let b = begun_at c.args.settings.now x in
          subst (λ f. IsRead b o nodes (es ++ entries_in f) r) (sym one)
          (read-met b o nodes es q r job job given (settled-alike nodes job alike) early (record { left = ap (λ v. v.items) met.left; facts = met.facts; comments = met.comments }) met.intake
          met.early met.met),
    )

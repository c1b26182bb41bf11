use Rattle.std.proofs.Common.{◌≡◌, ◌+◌, ◌<◌, ◌∙◌, ◌∷◌, [], arith, get_or, refl, rules, subst, true}
use Rattle.std.specs.Prelude.{Some, nat_lt, slice_get}
use Rattle.std.proofs.lemmas.Bool.Decides.{nat_tests}
use Rattle.std.proofs.lemmas.Option.{get_or_from_slice_get}
use Rattle.tetri_logs.specs.declared.entry.Entry.TheVariants.{Job}
use Rattle.tetri_logs.specs.declared.entry.LoggedJob.{LoggedJob}
use Rattle.tetri_workload.specs.declared.reading.Reading.{Reading}
use Rattle.tetri_workload.proofs.EntryLemmas.{submit_of}
use Rattle.tetri_workload.proofs.ReadLemmas.{read-line, read-passed}
use Rattle.tetri_workload.proofs.reading.Reading.pass_next.Goals as goal

pub returns-clause-read : goal.returns-clause-read
returns-clause-read c = λ passed s o es given.
    let nodes = c.args.nodes.now in
    let q = c.args.self.now in
    let jobs = q.early.jobs.items in
    let r : Reading = record { intake = q.intake; left = q.left; facts = q.facts; comments = q.comments; early = q.early; met = q.met + 1 } in
    let got = c.pass.ensures.passed c.if-not-pass.false in
    let job = got.0 in
    let next = c.in-Some.next.now in
    let there : slice_get jobs q.met ≡ Some job = subst (λ js. slice_get js q.met ≡ Some job) c.deref-2.ensures.value got.1 in
    let lent : next ≡ get_or jobs q.met next = search (rules, c.in-Some.ensures.lookup, c.deref.ensures.value) in
    let same : next ≡ job = lent ∙ get_or_from_slice_get jobs q.met job next there in
    let soon : job.account.submit < q.early.before = subst (λ (j : LoggedJob). j.account.submit < q.early.before) same c.if-next-early.true in
    let early : nat_lt (submit_of job) q.early.before ≡ true = grind (arith, nat_tests, soon) in
    read-line s o nodes es (Job job ∷ []) c.pass.new.self.entries q r c.args.walk.now.entries got.2
    (λ first read. read-passed s o nodes first q r job read c.requires.alike there early (record { left = refl; facts = refl; comments = refl }) refl refl refl) given

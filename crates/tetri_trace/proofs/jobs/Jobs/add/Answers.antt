use Rattle.std.proofs.Common.{◌≡◌, ◌∙◌, ◌++◌, ◌∷◌, ◌<◌, [], List, ℕ, cond, sym, ap, map, length, length-append, arith}
use Rattle.std.proofs.lemmas.List.{map-append}
use Rattle.tetri_cluster.specs.Names.{differ}
use Rattle.tetri_trace.specs.Scenario.{job_names, submission}
use Rattle.tetri_trace.specs.declared.trace.Job.{Job}
use Rattle.tetri_trace.proofs.JobNames.{is_fresh, job_names-submission, names_told}
use Rattle.tetri_trace.proofs.jobs.Jobs.add.Goals as goal

abbrev name_of : Job → List ℕ
name_of j = j.name

pub returns-then-not-branch-clause-fresh : goal.returns-then-not-branch-clause-fresh
returns-then-not-branch-clause-fresh c =
    let told = names_told c.self.inside.names c.self.inside.items.items c.args.self.now c.self.invariant.0 c.self.view_is in
    sym c.if-not-branch.true ∙ is_fresh c.self.inside.names (job_names (map submission c.args.self.now)) c.args.job.name c.bytes.result.now c.in_ok-add.field-0 told c.bytes.ensures.value c.in_ok-add.ensures.fresh

pub returns-then-not-branch-clause-differ : goal.returns-then-not-branch-clause-differ
returns-then-not-branch-clause-differ c =
    let names = c.self.inside.names in
    let kept : c.add.new.self ≡ names = c.in_ok-add.ensures.ok ∙ ap (λ b. cond b (names ++ c.bytes.result.now ∷ []) names) c.if-not-branch.true in
    ap differ (sym (kept ∙ names_told names c.self.inside.items.items c.reserve.new.self.items c.self.invariant.0 (sym c.reserve.ensures.items))) ∙ c.in_ok-add.ensures.differ

pub returns-clause-fresh : goal.returns-clause-fresh
returns-clause-fresh c =
    let told = names_told c.self.inside.names c.self.inside.items.items c.args.self.now c.self.invariant.0 c.self.view_is in
    sym c.if-not-branch.false ∙ is_fresh c.self.inside.names (job_names (map submission c.args.self.now)) c.args.job.name c.bytes.result.now c.in_ok-add.field-0 told c.bytes.ensures.value c.in_ok-add.ensures.fresh

pushed : (c : goal.In_ok-push) → c.push.new.self.items ≡ c.self.inside.items.items ++ c.args.job ∷ []
pushed c = c.in_ok-push.ensures.items ∙ ap (λ js. js ++ c.args.job ∷ []) c.reserve.ensures.items

indexed : (c : goal.In_ok-push) → c.add.new.self ≡ map name_of c.push.new.self.items
indexed c =
    let names = c.self.inside.names in
    let items = c.self.inside.items.items in
    let bytes = c.bytes.result.now in
    c.in_ok-add.ensures.ok
    ∙ ap (λ b. cond b (names ++ bytes ∷ []) names) c.if-not-branch.false
    ∙ (λ i. c.self.invariant.0 i ++ c.bytes.ensures.value i ∷ [])
    ∙ sym (map-append name_of items (c.args.job ∷ []))
    ∙ ap (map name_of) (sym (pushed c))

pub invariant_of-self-2 : goal.invariant_of-self-2
invariant_of-self-2 c =
    let few : length c.self.inside.items.items < 100000 = omega (arith, c.requires.few, ap length c.self.view_is) in
    (indexed c, omega (arith, few, ap length (pushed c), length-append c.self.inside.items.items (c.args.job ∷ [])))

pub returns-clause-differ : goal.returns-clause-differ
returns-clause-differ c = ap differ (job_names-submission c.push.new.self.items ∙ sym (indexed c)) ∙ c.in_ok-add.ensures.differ

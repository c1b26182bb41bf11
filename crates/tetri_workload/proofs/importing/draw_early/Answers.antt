use Rattle.std.proofs.Common.{◌≡◌, ◌∙◌, ◌++◌, ap, append_assoc, arith, refl, subst, sym}
use Rattle.std.specs.Prelude.{Contains, Ok}
use Rattle.std.proofs.lemmas.List.Elements.{Contains-append_left}
use Rattle.std.proofs.lemmas.List.Sorted.{Contains-permutation, IsPermutation-sym}
use Rattle.tetri_logs.specs.Entry.{entries_in}
use Rattle.tetri_logs.specs.Options.{settings_of}
use Rattle.tetri_logs.specs.Reading.{facts_in, no_facts}
use Rattle.tetri_logs.specs.declared.entry.LoggedJob.{LoggedJob}
use Rattle.tetri_workload.specs.Listed.{jobs_from}
use Rattle.tetri_workload.specs.Reading.{IsRead, jobs_of}
use Rattle.tetri_workload.specs.Taking.{so_far}
use Rattle.tetri_workload.proofs.DrawnLemmas.{all_met, drawn-of}
use Rattle.tetri_workload.proofs.importing.draw_early.Goals as goal

pub finish-requires-clause-few : goal.finish-requires-clause-few
finish-requires-clause-few c = λ more. omega (arith, c.in_ok-add.ensures.comments, c.in_ok-read.ensures.comments, c.requires.few, c.requires.one)

pub returns-clause-drawn : goal.returns-clause-drawn
returns-clause-drawn c = λ es timed headed.
    let nodes = c.args.nodes.now in
    let o = c.args.options.now in
    let draft = c.args.draft.now in
    let s = c.in-Some.settings in
    let line = entries_in c.args.first in
    let before = headed.0 in
    let found = c.in-Some.ensures.begun in
    let first : LoggedJob = found.0 in
    let begun : IsRead s o nodes before c.in_ok-read.read = c.in_ok-read.ensures.read nodes before headed.2 headed.3 in
    let added : IsRead s o nodes (before ++ line) c.add.new.self = c.in_ok-add.ensures.read s.origin (λ _. refl) o before begun in
    let end = c.in_ok-finish.ensures in
    let r = c.finish.new.self in
    let last : IsRead s o nodes es r = end.read o es (before ++ line, append_assoc before line c.args.walk.now.entries ∙ headed.1, added) in
    let early : r.early.jobs.items ≡ c.in_ok-jobs.jobs.items = ap (λ e. e.jobs.items) (end.early ∙ c.in_ok-add.ensures.early ∙ c.in_ok-read.ensures.early) in
    let there : Contains r.early.jobs.items first = subst (λ js. Contains js first) (c.deref.ensures.value ∙ sym early) found.1 in
    let all = jobs_of nodes es in
    let parts = r.early.jobs.items ++ jobs_from r.early.before all in
    let has : Contains all first =
    Contains-permutation parts all first (IsPermutation-sym all parts (all_met s o nodes es r last end.met).moved)
    (Contains-append_left r.early.jobs.items (jobs_from r.early.before all) first there) in
    let facts : r.facts ≡ c.args.head.facts = end.facts ∙ c.in_ok-add.ensures.facts ∙ c.in_ok-read.ensures.facts in
    let settings : settings_of o (facts_in no_facts es) ≡ Ok draft = ap (settings_of o) (sym last.facts ∙ facts) ∙ c.requires.draft in
    let drawn = c.drawn_by.ensures in
    drawn-of es nodes o c.drawn_by.result draft s r first timed settings found.2 c.in-Some.ensures.good has last end.none end.met
    drawn.settings (ap so_far drawn.taken) (ap (λ v. v.items) drawn.left) drawn.comments

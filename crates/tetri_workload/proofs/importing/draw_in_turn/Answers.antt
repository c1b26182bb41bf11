use Rattle.std.proofs.Common.{◌≡◌, ◌∙◌, ◌++◌, [], ap, append_assoc, arith, false, subst, sym, true, true≢false}
use Rattle.std.specs.Prelude.{Contains, Ok}
use Rattle.std.proofs.lemmas.List.Elements.{Contains-append_left, Contains-append_right}
use Rattle.std.proofs.lemmas.List.Sorted.{Contains-permutation, IsPermutation-sym}
use Rattle.tetri_logs.specs.Entry.{entries_in}
use Rattle.tetri_logs.specs.Options.{settings_of}
use Rattle.tetri_logs.specs.Origin.{begun_at}
use Rattle.tetri_logs.specs.Reading.{facts_in, no_facts}
use Rattle.tetri_logs.specs.Scale.{moment_of}
use Rattle.tetri_logs.specs.declared.entry.LoggedJob.{LoggedJob}
use Rattle.tetri_workload.specs.Listed.{jobs_before, jobs_from}
use Rattle.tetri_workload.specs.Reading.{IsRead, IsReadOf, behind, jobs_of}
use Rattle.tetri_workload.specs.Taking.{so_far}
use Rattle.tetri_workload.proofs.BeginLemmas.{begun-as}
use Rattle.tetri_workload.proofs.DrawnLemmas.{drawn-of}
use Rattle.tetri_workload.proofs.EntryLemmas.{jobs_of-append}
use Rattle.tetri_workload.proofs.ListedLemmas.{parted}
use Rattle.tetri_workload.proofs.importing.draw_in_turn.Goals as goal

pub add_lines-requires-clause-few : goal.add_lines-requires-clause-few
add_lines-requires-clause-few c = omega (arith, c.in_ok-add.ensures.comments, c.in_ok-read.ensures.comments, c.requires.few, c.requires.one)

pub finish-requires-clause-few : goal.finish-requires-clause-few
finish-requires-clause-few c = λ more.
    omega (arith, c.in_ok-ended.ensures.few more, c.in_ok-add.ensures.comments, c.in_ok-read.ensures.comments, c.requires.few, c.requires.one)

pub returns-clause-drawn : goal.returns-clause-drawn
returns-clause-drawn c = λ es timed headed.
    let nodes = c.args.nodes.now in
    let o = c.args.options.now in
    let draft = c.args.draft.now in
    let s = c.in-Some.settings in
    let line = entries_in c.args.first in
    let waits = c.add_lines.new.self in
    let waiting = waits.intake.waiting.held.items in
    let found = c.in-Some.ensures.begun in
    let first : LoggedJob = found.0 in
    let waited : Contains waiting first = subst (λ js. Contains js first) c.deref.ensures.value found.1 in
    let second = moment_of draft first.account in
    let b = begun_at draft second in
    let is : b ≡ s = begun-as draft s first found.2 in
    let never : false ≡ true → second ≡ draft.origin = λ is. absurd (true≢false (sym is)) in
    let before = headed.0 in
    let begun : IsRead b o nodes before c.in_ok-read.read = c.in_ok-read.ensures.read b nodes before headed.2 headed.3 in
    let added : IsRead b o nodes (before ++ line) c.add.new.self = c.in_ok-add.ensures.read second never o before begun in
    let read : IsReadOf b o nodes es (behind c.in_ok-ended.ended c.add_lines.new.walk.entries) waits =
    c.in_ok-ended.ensures.read second never o es (before ++ line, append_assoc before line c.args.walk.now.entries ∙ headed.1, added) in
    let rest = behind c.in_ok-ended.ended c.add_lines.new.walk.entries in
    let jobs = jobs_of nodes read.0 in
    let later = jobs_from waits.early.before jobs in
    let none : waits.early.jobs.items ≡ [] = ap (λ v. v.jobs.items) (c.in_ok-ended.ensures.early ∙ c.in_ok-add.ensures.early) ∙ c.in_ok-read.ensures.early in
    let handled = read.2.handled in
    let come : Contains (waits.early.jobs.items ++ later) first =
    Contains-permutation (handled.0 ++ waiting) (waits.early.jobs.items ++ later) first (IsPermutation-sym (waits.early.jobs.items ++ later) (handled.0 ++ waiting) handled.1.moved.moved)
    (Contains-append_right handled.0 waiting first waited) in
    let there : Contains jobs first =
    Contains-permutation (jobs_before waits.early.before jobs ++ later) jobs first (IsPermutation-sym jobs (jobs_before waits.early.before jobs ++ later) (parted waits.early.before jobs).moved)
    (Contains-append_right (jobs_before waits.early.before jobs) later first (subst (λ js. Contains (js ++ later) first) none come)) in
    let has : Contains (jobs_of nodes es) first =
    subst (λ xs. Contains (jobs_of nodes xs) first) read.1
    (subst (λ js. Contains js first) (sym (jobs_of-append nodes read.0 rest)) (Contains-append_left jobs (jobs_of nodes rest) first there)) in
    let end = c.in_ok-finish.ensures in
    let last : IsRead s o nodes es c.finish.new.self = end.read o es (read.0, read.1, subst (λ t. IsRead t o nodes read.0 waits) is read.2) in
    let facts : c.finish.new.self.facts ≡ c.args.head.facts =
    end.facts ∙ c.in_ok-ended.ensures.facts ∙ c.in_ok-add.ensures.facts ∙ c.in_ok-read.ensures.facts in
    let settings : settings_of o (facts_in no_facts es) ≡ Ok draft = ap (settings_of o) (sym last.facts ∙ facts) ∙ c.requires.draft in
    let drawn = c.drawn_by.ensures in
    drawn-of es nodes o c.drawn_by.result draft s c.finish.new.self first timed settings found.2 c.in-Some.ensures.good has last end.none end.met
    drawn.settings (ap so_far drawn.taken) (ap (λ v. v.items) drawn.left) drawn.comments

-- What is taken of a log whose jobs come in their turn is what is taken of it in order of submission.
use Rattle.std.proofs.Common.{◌≡◌, ◌≤◌, ◌∙◌, ◌++◌, inl, inr, List, Bool, true, false, [], length, map, cond, refl, ap, sym, subst, arith}
use Rattle.std.specs.Prelude.{All, Contains, None, Some, Ok}
use Rattle.std.proofs.lemmas.List.{append-nil, take_all}
use Rattle.std.proofs.lemmas.List.Elements.{All-map, All-weaker}
use Rattle.std.proofs.lemmas.List.Sorted.{All-permutation, Contains-permutation}
use Rattle.std.specs.List.Sorted.{IsPermutation}
use Rattle.tetri_cluster.specs.declared.cluster.NodeText.{NodeText}
use Rattle.tetri_logs.specs.Options.{AreGood, settings_of}
use Rattle.tetri_logs.specs.Origin.{begun_with, gap_of}
use Rattle.tetri_logs.specs.Reading.{AreTimedByLine, facts_in, jobs_in, no_facts}
use Rattle.tetri_logs.specs.declared.entry.Entry.{Entry}
use Rattle.tetri_logs.specs.declared.entry.LoggedJob.{LoggedJob}
use Rattle.tetri_logs.specs.declared.options.Options.{Options}
use Rattle.tetri_logs.specs.declared.options.Settings.{Settings}
use Rattle.tetri_logs.proofs.LogLaws.{all_entries}
use Rattle.tetri_workload.specs.Import.{IsDrawn}
use Rattle.tetri_workload.specs.Kinds.{are_mixed, settled, settled_all}
use Rattle.tetri_workload.specs.Listed.{jobs_before, jobs_from}
use Rattle.tetri_workload.specs.Ordering.{IsMoveBy}
use Rattle.tetri_workload.specs.Reading.{AreJoined, ComeInTurn, HasBridge, IsHandled, IsRead, jobs_of}
use Rattle.tetri_workload.specs.Taking.{nothing_taken, so_far, taken_all, with_left}
use Rattle.tetri_workload.specs.declared.importing.Drawn.{Drawn}
use Rattle.tetri_workload.specs.declared.intake.Intake.{Intake}
use Rattle.tetri_workload.specs.declared.reading.Reading.{Reading}
use Rattle.tetri_workload.proofs.BeginLemmas.{begun-of, no_gap-bridge, no_gap-early, no_gap-from}
use Rattle.tetri_workload.proofs.ImportLemmas.{moved-of, whole-of}
use Rattle.tetri_workload.proofs.InTurnLemmas.{IsAlike, alike}
use Rattle.tetri_workload.proofs.ListedLemmas.{parted}
use Rattle.tetri_workload.proofs.OrderLemmas.{IsMoveBy-trans, IsOrderBy-moved, IsOrderBy-ordered, ordered}
use Rattle.tetri_workload.proofs.EntryLemmas.{submit_of}

-- ---- jobs that stand on one line
abbrev AreAlike : LoggedJob → LoggedJob → Type 0
AreAlike a b = a.line ≡ b.line → a.account.submit ≡ b.account.submit

timed-moved : (xs ys : List LoggedJob) → IsPermutation xs ys → AreTimedByLine xs → AreTimedByLine ys
timed-moved xs ys moved timed =
    All-permutation (λ a. All (AreAlike a) ys) xs ys moved (All-weaker (λ a. All (AreAlike a) xs) (λ a. All (AreAlike a) ys) (λ a all. All-permutation (AreAlike a) xs ys moved all) xs timed)

timed-by : (mixed : Bool) (nodes : List NodeText) (jobs : List LoggedJob) → AreTimedByLine jobs → AreTimedByLine (cond mixed (map (settled nodes) jobs) jobs)
timed-by true nodes jobs timed =
    let f = settled nodes in
    All-map (λ a. All (AreAlike a) (map f jobs)) f jobs (All-weaker (λ a. All (AreAlike a) jobs) (λ a. All (AreAlike (f a)) (map f jobs)) (λ a all. All-map (AreAlike (f a)) f jobs all) jobs timed)
timed-by false nodes jobs timed = timed

timed-settled : (nodes : List NodeText) (jobs : List LoggedJob) → AreTimedByLine jobs → AreTimedByLine (settled_all nodes jobs)
timed-settled nodes jobs timed = timed-by (are_mixed nodes) nodes jobs timed

-- ---- no gap
moved-bridge : (s : Settings) (xs ys : List LoggedJob) → IsPermutation xs ys → HasBridge s xs → HasBridge s ys
moved-bridge s xs ys moved bridge =
    let b = bridge.2 in (
      bridge.0,
      bridge.1,
      record {
        has_early = Contains-permutation xs ys bridge.0 moved b.has_early;
        begins = b.begins;
        in_run = b.in_run;
        has_late = Contains-permutation xs ys bridge.1 moved b.has_late;
        may = b.may;
        beyond = b.beyond;
        near = b.near;
      },
    )

joined-none : (s : Settings) (o : Options) (all order : List LoggedJob) → IsPermutation all order → AreJoined s o all → gap_of o s (ordered submit_of order) ≡ None
joined-none s o all order moved (inl from) = no_gap-from o s (ordered submit_of order) from
joined-none s o all order moved (inr bridge) = no_gap-bridge o s order (moved-bridge s all order moved bridge)

none-by : (s : Settings) (o : Options) (all order rest : List LoggedJob) (i : Intake) (joined : Bool) → i.joined ≡ joined → IsPermutation all order → IsHandled s o all rest i order
    → gap_of o s (ordered submit_of order) ≡ None
none-by s o all order rest i true is moved h = joined-none s o all order moved (h.joined is)
none-by s o all order rest i false is moved h = no_gap-early o s order (h.early is)

-- ---- all early jobs
-- where each of them has been met, all jobs are those and the others
pub all_met : (s : Settings) (o : Options) (nodes : List NodeText) (es : List Entry) (r : Reading) → IsRead s o nodes es r → length r.early.jobs.items ≤ r.met
    → IsMoveBy submit_of (jobs_of nodes es) (r.early.jobs.items ++ jobs_from r.early.before (jobs_of nodes es))
all_met s o nodes es r read met =
    let all = jobs_of nodes es in
    let early : jobs_before r.early.before all ≡ r.early.jobs.items = read.met ∙ take_all r.met r.early.jobs.items met in
    subst (λ js. IsMoveBy submit_of all (js ++ jobs_from r.early.before all)) early (parted r.early.before all)

-- ---- what is drawn
pub drawn-of : (es : List Entry) (nodes : List NodeText) (o : Options) (d : Drawn) (draft s : Settings) (r : Reading) (first : LoggedJob)
    → AreTimedByLine (jobs_in es)
    → settings_of o (facts_in no_facts es) ≡ Ok draft
    → begun_with draft first.account ≡ Some s
    → AreGood s
    → Contains (jobs_of nodes es) first
    → IsRead s o nodes es r
    → r.intake.waiting.held.items ≡ []
    → length r.early.jobs.items ≤ r.met
    → d.settings ≡ s
    → so_far d.taken ≡ so_far r.intake.taken
    → d.left.items ≡ r.left.items
    → d.comments ≡ r.comments
    → IsDrawn es nodes o d
drawn-of es nodes o d draft s r first timed settings begins good has read none met is taken left comments =
    let all = jobs_of nodes es in
    let order = read.handled.0 in
    let h = read.handled.1 in
    let sorted = ordered submit_of order in
    let whole : order ++ r.intake.waiting.held.items ≡ order = ap (λ js. order ++ js) none ∙ append-nil order in
    let parts = r.early.jobs.items ++ jobs_from r.early.before all in
    let moved : IsMoveBy submit_of parts order = subst (IsMoveBy submit_of parts) whole h.moved in
    let moves : IsMoveBy submit_of all order = IsMoveBy-trans submit_of all parts order (all_met s o nodes es r read met) moved in
    let comes : ComeInTurn s nothing_taken 0 order = subst (ComeInTurn s nothing_taken 0) (append-nil order) (h.turns [] tt) in
    let same : IsAlike (taken_all s sorted) (taken_all s order) = alike s nothing_taken 0 order (timed-moved all order moves.moved (timed-settled nodes (jobs_in es) timed)) comes in
    let tally : so_far d.taken ≡ taken_all s order = taken ∙ h.tally in
    let together : gap_of o s sorted ≡ None = none-by s o parts order r.intake.waiting.held.items r.intake r.intake.joined refl moved.moved h in
    let counted = comments ∙ read.comments in (
      draft,
      sorted,
      record {
        drafted = record { settings = settings; ordered = IsOrderBy-moved submit_of all order sorted moves (IsOrderBy-ordered submit_of order) };
        settings = is ∙ sym (begun-of draft s first order begins (Contains-permutation all order first moves.moved has) h.begins);
        good = subst AreGood (sym is) good;
        together = subst (λ b. gap_of o b sorted ≡ None) (sym is) together;
        tally = subst (λ b. so_far d.taken ≡ with_left (taken_all b sorted) d.taken.left.items) (sym is) (whole-of d.taken (taken_all s sorted) (taken_all s order) tally same.same);
        moved = subst (λ b. IsMoveBy (λ x. x.line) (taken_all b sorted).left d.taken.left.items) (sym is) (moved-of d.taken (taken_all s sorted) (taken_all s order) tally same.moved);
        left = left ∙ read.left;
        comments = counted;
        whole = omega (arith, counted, all_entries es);
      },
    )

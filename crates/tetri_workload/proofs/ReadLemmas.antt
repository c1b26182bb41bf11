-- What is said by the lines so far, with one entry more.
use Rattle.std.proofs.Common.{◌≡◌, ◌+◌, ◌∙◌, ◌++◌, ◌∷◌, [], List, ap, ap₂, cond, false, map, refl, sym, subst, take, true, arith, append_assoc}
use Rattle.std.specs.Prelude.{Option, Some, nat_lt, slice_get}
use Rattle.std.proofs.lemmas.List.{append-nil, take_more}
use Rattle.std.proofs.lemmas.Option.{get_or_from_slice_get, slice_get_within}
use Rattle.tetri_base.specs.Lists.{count}
use Rattle.tetri_cluster.specs.declared.cluster.NodeText.{NodeText}
use Rattle.tetri_logs.specs.Reading.{facts_in, is_comment, left_in, no_facts, with_fact}
use Rattle.tetri_logs.specs.declared.comments.Fact.{Fact}
use Rattle.tetri_logs.specs.declared.early.Early.{Early}
use Rattle.tetri_logs.specs.declared.entry.Entry.{Entry}
use Rattle.tetri_logs.specs.declared.entry.Entry.TheVariants.{Job, Comment, Left}
use Rattle.tetri_logs.specs.declared.entry.LoggedJob.{LoggedJob}
use Rattle.tetri_logs.specs.declared.entry.Reject.{Reject}
use Rattle.tetri_logs.specs.declared.options.Options.{Options}
use Rattle.tetri_logs.specs.declared.options.Settings.{Settings}
use Rattle.tetri_logs.proofs.LogLaws.{comments-append, facts_in-append, left_in-append}
use Rattle.tetri_workload.specs.Kinds.{are_mixed, settled, settled_all}
use Rattle.tetri_workload.specs.Listed.{jobs_before, jobs_from}
use Rattle.tetri_workload.specs.Reading.{AreHandled, AreWanted, IsRead, IsReadOf, jobs_of}
use Rattle.tetri_workload.specs.Waiting.{HasSeconds}
use Rattle.tetri_workload.specs.declared.reading.Reading.{Reading}
use Rattle.tetri_workload.proofs.EntryLemmas.{jobs_of-append, submit_of}
use Rattle.tetri_workload.proofs.ListedLemmas.{before-early, before-late, from-early, from-late}

-- where nodes do not differ, a job stays as it is
pub settled-alike : (nodes : List NodeText) (job : LoggedJob) → are_mixed nodes ≡ false → job ∷ [] ≡ settled_all nodes (job ∷ [])
settled-alike nodes job alike = sym (ap (λ b. cond b (map (settled nodes) (job ∷ [])) (job ∷ [])) alike)

-- the early jobs stay as they are
before_of : {q r : Early} → r ≡ q → r.before ≡ q.before
before_of kept = ap (λ e. e.before) kept

-- ---- entries without a job
pub read-kept : (s : Settings) (o : Options) (nodes : List NodeText) (es more : List Entry) (q r : Reading) → IsRead s o nodes es q → jobs_of nodes more ≡ []
    → r.intake ≡ q.intake
    → r.early ≡ q.early
    → r.met ≡ q.met
    → r.left.items ≡ left_in (es ++ more)
    → r.facts ≡ facts_in no_facts (es ++ more)
    → r.comments ≡ count is_comment (es ++ more)
    → IsRead s o nodes (es ++ more) r
read-kept s o nodes es more q r given none intake kept met left facts comments =
    let same : jobs_of nodes (es ++ more) ≡ jobs_of nodes es = jobs_of-append nodes es more ∙ ap (λ js. jobs_of nodes es ++ js) none ∙ append-nil (jobs_of nodes es) in
    let all : r.early.jobs.items ++ jobs_from r.early.before (jobs_of nodes (es ++ more)) ≡ q.early.jobs.items ++ jobs_from q.early.before (jobs_of nodes es) =
    ap₂ (λ e js. e.jobs.items ++ js) kept (ap₂ jobs_from (before_of kept) same) in
    record {
      left = left;
      facts = facts;
      comments = comments;
      wanted = subst (λ i. AreWanted s i.waiting.held.items) (sym intake) given.wanted;
      seconds = subst (λ i. HasSeconds i.waiting) (sym intake) given.seconds;
      met = ap₂ jobs_before (before_of kept) same ∙ given.met ∙ sym (ap₂ (λ n e. take n e.jobs.items) met kept);
      handled = subst (λ js. AreHandled s o js r.intake.waiting.held.items r.intake) (sym all)
          (subst (λ i. AreHandled s o (q.early.jobs.items ++ jobs_from q.early.before (jobs_of nodes es)) i.waiting.held.items i) (sym intake) given.handled);
    }

-- a comment
pub read-comment : (s : Settings) (o : Options) (nodes : List NodeText) (es : List Entry) (q r : Reading) (fact : Option Fact) → jobs_of nodes (Comment fact ∷ []) ≡ []
    → IsRead s o nodes es q
    → r.intake ≡ q.intake
    → r.early ≡ q.early
    → r.met ≡ q.met
    → r.left.items ≡ q.left.items
    → r.facts ≡ with_fact q.facts fact
    → r.comments ≡ q.comments + 1
    → IsRead s o nodes (es ++ Comment fact ∷ []) r
read-comment s o nodes es q r fact none given intake kept met left facts comments =
    let one : count is_comment (Comment fact ∷ []) ≡ 1 = refl in
    read-kept s o nodes es (Comment fact ∷ []) q r given none intake kept met
    (left ∙ given.left ∙ sym (left_in-append es (Comment fact ∷ []) ∙ append-nil (left_in es)))
    (facts ∙ ap (λ f. with_fact f fact) given.facts ∙ sym (facts_in-append no_facts es (Comment fact ∷ [])))
    (omega (arith, comments, given.comments, comments-append es (Comment fact ∷ []), one))

-- a line, or a task, that brings no job
pub read-left : (s : Settings) (o : Options) (nodes : List NodeText) (es : List Entry) (q r : Reading) (reject : Reject) → jobs_of nodes (Left reject ∷ []) ≡ []
    → IsRead s o nodes es q
    → r.intake ≡ q.intake
    → r.early ≡ q.early
    → r.met ≡ q.met
    → r.left.items ≡ q.left.items ++ reject ∷ []
    → r.facts ≡ q.facts
    → r.comments ≡ q.comments
    → IsRead s o nodes (es ++ Left reject ∷ []) r
read-left s o nodes es q r reject none given intake kept met left facts comments =
    let zero : count is_comment (Left reject ∷ []) ≡ 0 = refl in
    read-kept s o nodes es (Left reject ∷ []) q r given none intake kept met
    (left ∙ ap (λ rs. rs ++ reject ∷ []) given.left ∙ sym (left_in-append es (Left reject ∷ [])))
    (facts ∙ given.facts ∙ sym (facts_in-append no_facts es (Left reject ∷ [])))
    (omega (arith, comments, given.comments, comments-append es (Left reject ∷ []), zero))

-- ---- a job
-- what else a line with one says
pub record IsPlain (q r : Reading) : Type 0 where
  pub left : r.left.items ≡ q.left.items
  pub facts : r.facts ≡ q.facts
  pub comments : r.comments ≡ q.comments

jobs-with : (nodes : List NodeText) (es : List Entry) (job settled : LoggedJob) → settled ∷ [] ≡ settled_all nodes (job ∷ []) → jobs_of nodes (es ++ Job job ∷ []) ≡ jobs_of nodes es ++ settled ∷ []
jobs-with nodes es job settled is = jobs_of-append nodes es (Job job ∷ []) ∙ ap (λ js. jobs_of nodes es ++ js) (sym is)

job-left : (es : List Entry) (job : LoggedJob) (q r : Reading) → q.left.items ≡ left_in es → IsPlain q r → r.left.items ≡ left_in (es ++ Job job ∷ [])
job-left es job q r given plain = plain.left ∙ given ∙ sym (left_in-append es (Job job ∷ []) ∙ append-nil (left_in es))

job-facts : (es : List Entry) (job : LoggedJob) (q r : Reading) → q.facts ≡ facts_in no_facts es → IsPlain q r → r.facts ≡ facts_in no_facts (es ++ Job job ∷ [])
job-facts es job q r given plain = plain.facts ∙ given ∙ sym (facts_in-append no_facts es (Job job ∷ []))

job-comments : (es : List Entry) (job : LoggedJob) (q r : Reading) → q.comments ≡ count is_comment es → IsPlain q r → r.comments ≡ count is_comment (es ++ Job job ∷ [])
job-comments es job q r given plain =
    let zero : count is_comment (Job job ∷ []) ≡ 0 = refl in
    let same = plain.comments in
    omega (arith, same, given, comments-append es (Job job ∷ []), zero)

-- one that is none of the early ones
pub read-job : (s : Settings) (o : Options) (nodes : List NodeText) (es : List Entry) (q r : Reading) (job settled : LoggedJob) → IsRead s o nodes es q
    → settled ∷ [] ≡ settled_all nodes (job ∷ [])
    → nat_lt (submit_of settled) q.early.before ≡ false
    → IsPlain q r
    → r.early ≡ q.early
    → r.met ≡ q.met
    → AreWanted s r.intake.waiting.held.items
    → HasSeconds r.intake.waiting
    → AreHandled s o ((q.early.jobs.items ++ jobs_from q.early.before (jobs_of nodes es)) ++ settled ∷ []) r.intake.waiting.held.items r.intake
    → IsRead s o nodes (es ++ Job job ∷ []) r
read-job s o nodes es q r job settled given is late plain kept met wanted seconds handled =
    let jobs = jobs_of nodes es in
    let more = jobs-with nodes es job settled is in
    let all : r.early.jobs.items ++ jobs_from r.early.before (jobs_of nodes (es ++ Job job ∷ [])) ≡ (q.early.jobs.items ++ jobs_from q.early.before jobs) ++ settled ∷ [] =
    ap₂ (λ e js. e.jobs.items ++ js) kept (ap₂ jobs_from (before_of kept) more ∙ from-late q.early.before jobs settled late)
    ∙ sym (append_assoc q.early.jobs.items (jobs_from q.early.before jobs) (settled ∷ [])) in
    record {
      left = job-left es job q r given.left plain;
      facts = job-facts es job q r given.facts plain;
      comments = job-comments es job q r given.comments plain;
      wanted = wanted;
      seconds = seconds;
      met = ap₂ jobs_before (before_of kept) more ∙ before-late q.early.before jobs settled late ∙ given.met ∙ sym (ap₂ (λ n e. take n e.jobs.items) met kept);
      handled = subst (λ js. AreHandled s o js r.intake.waiting.held.items r.intake) (sym all) handled;
    }

-- the next one of the early ones
pub read-met : (s : Settings) (o : Options) (nodes : List NodeText) (es : List Entry) (q r : Reading) (job settled : LoggedJob) → IsRead s o nodes es q
    → settled ∷ [] ≡ settled_all nodes (job ∷ [])
    → nat_lt (submit_of settled) q.early.before ≡ true
    → IsPlain q r
    → r.intake ≡ q.intake
    → r.early ≡ q.early
    → take r.met r.early.jobs.items ≡ take q.met q.early.jobs.items ++ settled ∷ []
    → IsRead s o nodes (es ++ Job job ∷ []) r
read-met s o nodes es q r job settled given is early plain intake kept met =
    let jobs = jobs_of nodes es in
    let more = jobs-with nodes es job settled is in
    let all : r.early.jobs.items ++ jobs_from r.early.before (jobs_of nodes (es ++ Job job ∷ [])) ≡ q.early.jobs.items ++ jobs_from q.early.before jobs =
    ap₂ (λ e js. e.jobs.items ++ js) kept (ap₂ jobs_from (before_of kept) more ∙ from-early q.early.before jobs settled early) in
    record {
      left = job-left es job q r given.left plain;
      facts = job-facts es job q r given.facts plain;
      comments = job-comments es job q r given.comments plain;
      wanted = subst (λ i. AreWanted s i.waiting.held.items) (sym intake) given.wanted;
      seconds = subst (λ i. HasSeconds i.waiting) (sym intake) given.seconds;
      met = ap₂ jobs_before (before_of kept) more ∙ before-early q.early.before jobs settled early ∙ ap (λ js. js ++ settled ∷ []) given.met ∙ sym met;
      handled = subst (λ js. AreHandled s o js r.intake.waiting.held.items r.intake) (sym all)
          (subst (λ i. AreHandled s o (q.early.jobs.items ++ jobs_from q.early.before jobs) i.waiting.held.items i) (sym intake) given.handled);
    }

-- the next one, where nodes do not differ
pub read-passed : (s : Settings) (o : Options) (nodes : List NodeText) (es : List Entry) (q r : Reading) (job : LoggedJob) → IsRead s o nodes es q
    → are_mixed nodes ≡ false
    → slice_get q.early.jobs.items q.met ≡ Some job
    → nat_lt (submit_of job) q.early.before ≡ true
    → IsPlain q r
    → r.intake ≡ q.intake
    → r.early ≡ q.early
    → r.met ≡ q.met + 1
    → IsRead s o nodes (es ++ Job job ∷ []) r
read-passed s o nodes es q r job given alike is early plain intake kept met =
    let jobs = q.early.jobs.items in
    read-met s o nodes es q r job job given (settled-alike nodes job alike) early plain intake kept
    (ap₂ (λ n e. take n e.jobs.items) met kept ∙ take_more jobs q.met job (slice_get_within jobs q.met job is)
    ∙ ap (λ j. take q.met jobs ++ j ∷ []) (get_or_from_slice_get jobs q.met job job is))

-- the entries of some lists, one behind the other
pub read-assoc : (s : Settings) (o : Options) (nodes : List NodeText) (es done more : List Entry) (r : Reading) → IsRead s o nodes ((es ++ done) ++ more) r → IsRead s o nodes (es ++ (done ++ more)) r
read-assoc s o nodes es done more r given = subst (λ xs. IsRead s o nodes xs r) (append_assoc es done more) given

-- a line more of a log
pub read-line : (s : Settings) (o : Options) (nodes : List NodeText) (es found rest : List Entry) (q r : Reading) (all : List Entry) → all ≡ found ++ rest
    → ((first : List Entry) → IsRead s o nodes first q → IsRead s o nodes (first ++ found) r)
    → IsReadOf s o nodes es all q → IsReadOf s o nodes es rest r
read-line s o nodes es found rest q r all step reads given =
    (given.0 ++ found, append_assoc given.0 found rest ∙ ap (λ xs. given.0 ++ xs) (sym step) ∙ given.1, reads given.0 given.2)

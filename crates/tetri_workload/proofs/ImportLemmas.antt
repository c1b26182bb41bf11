-- What follows of a trace that is read as what was taken.
use Rattle.std.proofs.Common.{◌≡◌, ◌+◌, ◌∙◌, ◌++◌, ℕ, Bool, true, false, cond, List, length, map, ap, refl, sym, subst, arith, length-append}
use Rattle.std.specs.Prelude.{string_bytes, None}
use Rattle.std.proofs.lemmas.List.{length-map}
use Rattle.std.proofs.lemmas.List.Sorted.{length_permutation}
use Rattle.tetri_base.specs.Lists.{count}
use Rattle.tetri_cluster.specs.declared.cluster.NodeText.{NodeText}
use Rattle.tetri_logs.specs.declared.entry.Entry.{Entry}
use Rattle.tetri_logs.specs.declared.entry.LoggedJob.{LoggedJob}
use Rattle.tetri_logs.specs.Origin.{begun, gap_of}
use Rattle.tetri_logs.specs.Reading.{entries, facts_in, is_comment, jobs_in, left_in, no_facts}
use Rattle.tetri_logs.specs.declared.entry.Format.{Format}
use Rattle.tetri_logs.specs.declared.reading.Log.{Log}
use Rattle.tetri_workload.specs.Head.{IsSaidBy}
use Rattle.tetri_logs.specs.declared.entry.Reject.{Reject}
use Rattle.tetri_logs.specs.declared.options.Options.{Options}
use Rattle.tetri_logs.specs.declared.options.Settings.{Settings}
use Rattle.tetri_trace.specs.Scenario.{submission}
use Rattle.tetri_trace.specs.declared.trace.Event.{Event}
use Rattle.tetri_workload.specs.Import.{IsDraft, IsImportOf}
use Rattle.tetri_workload.specs.Kinds.{are_mixed, settled, settled_all}
use Rattle.tetri_workload.specs.Ordering.{IsMoveBy, IsOrderBy}
use Rattle.tetri_workload.specs.Saying.{AreSeated, IsReadAs, header_of}
use Rattle.tetri_workload.specs.Taking.{Tally, so_far, taken_all, with_left}
use Rattle.tetri_workload.specs.Text.{text_of}
use Rattle.tetri_workload.specs.declared.importing.Imported.{Imported}
use Rattle.tetri_workload.specs.declared.taking.Taken.{Taken}
use Rattle.tetri_workload.proofs.OrderLemmas.{IsMoveBy-append, IsOrderBy-moved}
use Rattle.tetri_workload.proofs.TakingLemmas.{all_taken_or_left}

-- as many jobs as before
length-either : (b : Bool) (nodes : List NodeText) (jobs : List LoggedJob) → length (cond b (map (settled nodes) jobs) jobs) ≡ length jobs
length-either true nodes jobs = length-map jobs (settled nodes)
length-either false nodes jobs = refl

length-settled_all : (nodes : List NodeText) (jobs : List LoggedJob) → length (settled_all nodes jobs) ≡ length jobs
length-settled_all nodes jobs = length-either (are_mixed nodes) nodes jobs

pub imported : (es : List Entry) (nodes : List NodeText) (o : Options) (i : Imported) (draft s : Settings) (order : List LoggedJob) (t : Taken) (events : List Event)
    → IsDraft es nodes o draft order
    → s ≡ begun draft order
    → gap_of o s order ≡ None
    → so_far t ≡ with_left (taken_all s order) t.left.items
    → IsMoveBy (λ r. r.line) (taken_all s order).left t.left.items
    → IsOrderBy (λ e. e.at) t.events.items events
    → (read : IsReadAs s nodes (record (so_far t) { events = events }) (string_bytes i.trace))
    → IsOrderBy (λ r. r.line) (left_in es ++ t.left.items) i.left.items
    → i.jobs ≡ length t.jobs
    → i.rounded ≡ length t.rounded.items
    → i.comments ≡ count is_comment es
    → i.mixed ≡ are_mixed nodes
    → length (jobs_in es) + length (left_in es) + i.comments ≡ length es
    → IsImportOf es nodes o i draft order read.0
imported es nodes o i draft s order t events drafted is gap tally moves in_order read left jobs rounded comments mixed whole =
    let b = begun draft order in
    let tallied : so_far t ≡ with_left (taken_all b order) t.left.items = tally ∙ ap (λ r. with_left (taken_all r order) t.left.items) is in
    let same : IsMoveBy (λ r. r.line) (left_in es ++ (taken_all b order).left) (left_in es ++ t.left.items) =
    IsMoveBy-append (λ r. r.line) (left_in es) (taken_all b order).left t.left.items (subst (λ r. IsMoveBy (λ x. x.line) (taken_all r order).left t.left.items) is moves) in
    let lefts : IsOrderBy (λ r. r.line) (left_in es ++ (taken_all b order).left) i.left.items =
    IsOrderBy-moved (λ r. r.line) (left_in es ++ (taken_all b order).left) (left_in es ++ t.left.items) i.left.items same left in
    let taken : i.jobs ≡ length (taken_all (begun draft order) order).jobs = jobs ∙ sym (length-map t.jobs submission) ∙ ap (λ u. length u.jobs) tallied in
    let moved = length_permutation (left_in es ++ (taken_all (begun draft order) order).left) i.left.items lefts.moved in
    let number = length-append (left_in es) (taken_all (begun draft order) order).left in
    record {
      drafted = drafted;
      together = ap (λ b. gap_of o b order) (sym is) ∙ gap;
      trace = record {
        read = read.1;
        header = read.2.most.header ∙ ap (λ u. header_of s u.until) tallied ∙ ap (λ b. header_of b (taken_all (begun draft order) order).until) is;
        count = read.2.most.count ∙ ap (λ b. b.nodes) is;
        jobs = read.2.most.jobs ∙ ap (λ u. u.jobs) tallied;
        events = subst (λ xs. IsOrderBy (λ e. e.at) xs read.0.events) (ap (λ u. u.events) tallied)
            (subst (λ ys. IsOrderBy (λ e. e.at) t.events.items ys) (sym read.2.most.events) in_order);
        seated = subst (λ u. AreSeated nodes u.sets read.0) tallied read.2.seated;
      };
      whole = record {
        left = lefts;
        jobs = taken;
        rounded = rounded ∙ ap (λ u. length u.rounded) tallied;
        comments = comments;
        mixed = mixed;
        lines = omega (arith, taken, number, moved, whole, all_taken_or_left (begun draft order) order, length-settled_all nodes (jobs_in es), length_permutation (settled_all nodes (jobs_in es)) order drafted.ordered.moved);
      };
    }

-- what is read as what was taken is so whatever is left out
with_others : (s : Settings) (nodes : List NodeText) (t : Tally) (left : List Reject) (text : List ℕ) → IsReadAs s nodes t text → IsReadAs s nodes (with_left t left) text
with_others s nodes t left text read = (
  read.0,
  read.1,
  record {
    most = record { header = read.2.most.header; count = read.2.most.count; jobs = read.2.most.jobs; events = read.2.most.events };
    seated = read.2.seated;
  },
)

-- and by any names of the same settings, the same tally and the same text
pub same_reading : (s r : Settings) (nodes : List NodeText) (t u : Tally) (text : List ℕ) → s ≡ r → t ≡ with_left u t.left → text ≡ text_of s nodes t → IsReadAs r nodes u (text_of r nodes u) → IsReadAs s nodes t text
same_reading s r nodes t u text p q e read =
    subst (λ x. IsReadAs s nodes t x) (sym e)
    (subst (λ b. IsReadAs b nodes t (text_of b nodes t)) (sym p)
    (subst (λ v. IsReadAs r nodes v (text_of r nodes v)) (sym q) (with_others r nodes u t.left (text_of r nodes u) read)))

-- what all lines of a log say
pub all_lines : (mixed differ : Bool) (format : Format) (log : List ℕ) (l : Log) → differ ≡ mixed → l.jobs.items ≡ jobs_in (entries differ format log) → l.left.items ≡ left_in (entries differ format log)
    → l.facts ≡ facts_in no_facts (entries differ format log) → l.comments ≡ count is_comment (entries differ format log) → IsSaidBy (entries mixed format log) l
all_lines mixed differ format log l same jobs left facts comments =
    subst (λ b. IsSaidBy (entries b format log) l) same (record { jobs = jobs; left = left; facts = facts; comments = comments })

-- ---- what is taken in one order and another
-- the tally but for what was left out, and that
pub whole-of : (t : Taken) (u v : Tally) → so_far t ≡ v → v ≡ with_left u v.left → so_far t ≡ with_left u t.left.items
whole-of t u v is same = is ∙ same ∙ ap (with_left u) (sym (ap (λ x. x.left) is))

pub moved-of : (t : Taken) (u v : Tally) → so_far t ≡ v → IsMoveBy (λ r. r.line) u.left v.left → IsMoveBy (λ r. r.line) u.left t.left.items
moved-of t u v is moved = subst (λ x. IsMoveBy (λ r. r.line) u.left x.left) (sym is) moved

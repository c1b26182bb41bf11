use Rattle.std.proofs.Common.{◌≡◌, ◌∙◌, ◌++◌, List, length, ap, subst, rules}
use Rattle.std.specs.Prelude.{IsTrue, string_bytes}
use Rattle.tetri_logs.specs.Origin.{begun}
use Rattle.tetri_logs.specs.Reading.{entries, left_in}
use Rattle.tetri_workload.specs.Kinds.{are_mixed}
use Rattle.tetri_workload.specs.Ordering.{IsOrderBy}
use Rattle.tetri_workload.specs.Saying.{IsReadAs}
use Rattle.tetri_trace.specs.declared.trace.Event.{Event}
use Rattle.tetri_workload.specs.Taking.{Tally, so_far, taken_all, with_left}
use Rattle.tetri_workload.specs.declared.importing.Imported.{Imported}
use Rattle.tetri_workload.proofs.ImportLemmas.{imported, same_reading}
use Rattle.tetri_workload.proofs.importing.told.Goals as goal

pub returns-clause-trace : goal.returns-clause-trace
returns-clause-trace c = λ format o log drawn.
    let nodes = c.args.nodes.now in
    let es = entries (are_mixed nodes) format log in
    let draft = drawn.0 in
    let order = drawn.1 in
    let d = c.args.drawn.now in
    let s = d.settings in
    let t = d.taken in
    let events = c.by_slot.new.events.items in
    let in_order : IsOrderBy (λ e. e.at) t.events.items events = c.in_ok-by_slot.ensures in
    let read : IsReadAs s nodes (record (so_far t) { events = events }) (string_bytes c.in_ok-trace.trace) =
    subst (IsReadAs s nodes (record (so_far t) { events = events })) c.deref.ensures (c.in_ok-alike.ensures.0 (search rules)) in
    let both : c.replace-first.result.items ++ c.replace-second.result.items ≡ d.left.items ++ t.left.items = search (rules, c.replace-first.ensures, c.replace-second.ensures) in
    let extended : c.in_ok-left.left.items ≡ left_in es ++ t.left.items = c.in_ok-left.ensures ∙ both ∙ ap (λ cs. cs ++ t.left.items) drawn.2.left in
    let left : IsOrderBy (λ r. r.line) (left_in es ++ t.left.items) c.by_line.new.left.items =
    subst (λ rs. IsOrderBy (λ r. r.line) rs c.by_line.new.left.items) extended c.in_ok-by_line.ensures in
    let rounded : length c.as_slice-rounded.result.now ≡ length t.rounded.items = ap length c.as_slice-rounded.ensures.value in
    let i : Imported = record { trace = c.in_ok-trace.trace; jobs = c.len-jobs.result; rounded = length c.as_slice-rounded.result.now; left = c.by_line.new.left; comments = d.comments; mixed = c.are_mixed.result } in
    (draft, order, read.0, imported es nodes o i draft s order t events drawn.2.drafted drawn.2.settings drawn.2.together drawn.2.tally drawn.2.moved in_order read left c.len-jobs.ensures.value rounded drawn.2.comments c.are_mixed.ensures drawn.2.whole)

pub returns-then-not-alike-clause-refused : goal.returns-then-not-alike-clause-refused
returns-then-not-alike-clause-refused c = λ es o drawn.
    let nodes = c.args.nodes.now in
    let draft = drawn.0 in
    let order = drawn.1 in
    let s = c.args.drawn.now.settings in
    let t = c.args.drawn.now.taken in
    let events = c.by_slot.new.events.items in
    let is : s ≡ begun draft order = drawn.2.settings in
    let tally : so_far t ≡ with_left (taken_all (begun draft order) order) t.left.items = drawn.2.tally ∙ ap (λ b. with_left (taken_all b order) t.left.items) is in
    let turn : Tally → Tally = λ u. record u { events = events } in
    let happened : Tally → List Event = λ u. u.events in
    let tallied : turn (so_far t) ≡ with_left (turn (taken_all (begun draft order) order)) t.left.items = ap turn tally in
    let in_order : IsOrderBy (λ e. e.at) t.events.items events = c.in_ok-by_slot.ensures in (
      draft,
      order,
      events,
      record {
        drafted = drawn.2.drafted;
        timed = subst (λ xs. IsOrderBy (λ e. e.at) xs events) (ap happened tally) in_order;
        unlike = λ read. let wrong = subst IsTrue c.if-not-alike.true (c.in_ok-alike.ensures.1 (same_reading s (begun draft order) nodes (turn (so_far t)) (turn (taken_all (begun draft order) order)) c.deref.result.now is tallied (c.deref.ensures ∙ c.in_ok-trace.ensures) read)) in cc;
      },
    )

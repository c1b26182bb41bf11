use Rattle.std.proofs.Common.{◌≡◌, ◌++◌, ◌∙◌, List, ap, length, subst, sym}
use Rattle.std.specs.List.Sorted.{IsPermutation}
use Rattle.std.proofs.lemmas.List.{length-map}
use Rattle.tetri_trace.specs.Scenario.{scenario, submission}
use Rattle.tetri_accounts.specs.Rows.{idle_rows}
use Rattle.tetri_accounts.specs.declared.row.Row.{Row}
use Rattle.tetri_accounts.proofs.account.all_rows.Goals as goal

pub returns-clause-one_each : goal.returns-clause-one_each
returns-clause-one_each c =
    let launches : List Row = c.args.closed.items ++ c.args.running.items in
    let jobs = c.args.trace.now.jobs in
    let counted : c.len.result ≡ length (scenario c.args.trace.now).submissions = c.len.ensures.value ∙ sym (length-map jobs submission) in
    subst (λ xs. IsPermutation xs c.in_ok-sorted.sorted.items)
    (c.in_ok-add_idle.ensures ∙ ap (λ xs. xs ++ idle_rows c.len.result xs c.deref.result.now) c.in_ok-rows.ensures
    ∙ ap (λ n. launches ++ idle_rows n launches c.deref.result.now) counted
    ∙ ap (λ gone. launches ++ idle_rows (length (scenario c.args.trace.now).submissions) launches gone) c.deref.ensures.value)
    c.in_ok-sorted.ensures.one_each

use Rattle.std.proofs.Common.{◌≡◌, ◌∙◌, subst}
use Rattle.std.proofs.lemmas.List.{take_all}
use Rattle.tetri_workload.specs.Listed.{jobs_at}
use Rattle.tetri_workload.specs.Ordering.{IsOrderBy}
use Rattle.tetri_workload.proofs.EntryLemmas.{submit_of}
use Rattle.tetri_workload.proofs.ListedLemmas.{in_order-at}
use Rattle.tetri_workload.proofs.listed.listed_in_order.Goals as goal

pub returns-clause-order : goal.returns-clause-order
returns-clause-order c =
    let jobs = c.args.jobs.now in
    let inv = c.loop-place.invariant in
    let before = c.loop-place.listed.items in
    let after = c.in_order.new.listed.items in
    let whole : jobs_at jobs before ≡ jobs = inv.jobs ∙ take_all c.loop-place.place jobs c.loop-place-test.false in
    subst (λ js. IsOrderBy submit_of js (jobs_at jobs after)) whole (in_order-at jobs before after inv.told c.in_ok-in_order.ensures)

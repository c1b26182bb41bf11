use Rattle.std.proofs.Common.{◌++◌, ◌∙◌, List, ℕ, sym, ap, append_assoc}
use Rattle.std.specs.Prelude.{flat_map}
use Rattle.std.specs.List.{range_with_len}
use Rattle.tetri_base.proofs.ListLaws.{flat_map-next}
use Rattle.tetri_accounts.specs.Rows.{idle_at}
use Rattle.tetri_accounts.specs.declared.row.Row.{Row}
use Rattle.tetri_accounts.proofs.idle.add_idle_rows.Goals as goal

pub loop-job-preserved : goal.loop-job-preserved
loop-job-preserved c =
    let f : ℕ → List Row = idle_at c.args.have.now c.args.first.now in
    let l = c.loop-job in
    let before : List Row = c.args.rows.now.items in
    c.in_ok-add_idle_row.ensures ∙ ap (λ xs. xs ++ f l.job) l.invariant ∙ append_assoc before (flat_map f (range_with_len 0 l.job)) (f l.job)
    ∙ ap (λ xs. before ++ xs) (sym (flat_map-next f l.job))

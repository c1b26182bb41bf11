use Rattle.std.proofs.Common.{◌++◌, ◌∙◌, ℕ, List, ap}
use Rattle.std.specs.Prelude.{flat_map}
use Rattle.std.specs.List.{range_with_len}
use Rattle.tetri_accounts.specs.Rows.{has_row, idle_at}
use Rattle.tetri_accounts.specs.declared.row.Row.{Row}
use Rattle.tetri_accounts.proofs.IdleLemmas.{idle_by_tables}
use Rattle.tetri_accounts.proofs.idle.add_idle.Goals as goal

pub returns : goal.returns
returns c =
    let before : List Row = c.args.rows.now.items in
    let n : ℕ = c.args.jobs in
    c.in_ok-add_idle_rows.ensures
    ∙ ap (λ h. before ++ flat_map (idle_at h c.deref-3.result.now) (range_with_len 0 n)) c.deref-2.ensures.value
    ∙ ap (λ f. before ++ flat_map (idle_at c.in_ok-have.have.items f) (range_with_len 0 n)) c.deref-3.ensures.value
    ∙ ap (λ xs. before ++ xs) (idle_by_tables n before c.args.gone.now c.in_ok-have.have.items c.in_ok-first.first.items (λ job lt. c.in_ok-have.ensures.has job lt ∙ ap (λ rs. has_row rs job) c.deref.ensures.value) c.in_ok-first.ensures.first)

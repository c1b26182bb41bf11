use Rattle.std.proofs.Common.{◌∙◌, ap}
use Rattle.tetri_base.specs.Lists.{has}
use Rattle.tetri_accounts.proofs.IdleLemmas.{any_mapped}
use Rattle.tetri_accounts.proofs.idle.rows_by_job.Goals as goal

pub returns-clause-has : goal.returns-clause-has
returns-clause-has c = λ job lt.
    c.in_ok-have.ensures.has job lt ∙ ap (λ ns. has ns job) (c.deref.ensures.value ∙ c.in_ok-numbers.ensures) ∙ any_mapped c.args.rows.now job

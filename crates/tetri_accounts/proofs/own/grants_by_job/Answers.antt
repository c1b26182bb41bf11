use Rattle.std.proofs.Common.{◌==◌, ◌∙◌, [], ap, filter, rules, of_calls}
use Rattle.std.proofs.lemmas.Fn.{always_returns_same}
use Rattle.std.proofs.lemmas.List.Sorted.{IsNonDecreasingBy-from_sort_by_key}
use Rattle.tetri_strl.specs.declared.grants.Grant.{Grant}
use Rattle.tetri_accounts.proofs.OwnLemmas.{own_stably}
use Rattle.tetri_accounts.proofs.own.grants_by_job.Goals as goal

pub returns-clause-rise : goal.returns-clause-rise
returns-clause-rise c = IsNonDecreasingBy-from_sort_by_key (λ (g : Grant). g.job) _ c.in_ok-sort_by_key.ensures.sorted (λ a r q k. search rules)

pub returns-clause-own : goal.returns-clause-own
returns-clause-own c = λ job.
    own_stably (λ (g : Grant). g.job) (record { job = job; leaf = 0; nodes = [] }) c.into_items-by_job.result.items c.sort_by_key.new.self.items
    (c.in_ok-sort_by_key.ensures.stable (λ (g : Grant). g.job) (always_returns_same _ _ _ (λ a r f k. search (rules, of_calls))))
    ∙ ap (filter (λ (g : Grant). g.job == job)) (c.into_items-by_job.ensures ∙ c.in_ok-copy_grants.ensures)

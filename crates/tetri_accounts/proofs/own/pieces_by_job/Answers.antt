use Rattle.std.proofs.Common.{◌==◌, ◌∙◌, [], ap, filter, rules, of_calls}
use Rattle.std.proofs.lemmas.Fn.{always_returns_same}
use Rattle.std.proofs.lemmas.List.Sorted.{IsNonDecreasingBy-from_sort_by_key}
use Rattle.tetri_state.specs.declared.pieces.Piece.{Piece}
use Rattle.tetri_accounts.proofs.OwnLemmas.{own_stably}
use Rattle.tetri_accounts.proofs.own.pieces_by_job.Goals as goal

pub returns-clause-rise : goal.returns-clause-rise
returns-clause-rise c = IsNonDecreasingBy-from_sort_by_key (λ (p : Piece). p.job) _ c.in_ok-sort_by_key.ensures.sorted (λ a r q k. search rules)

pub returns-clause-own : goal.returns-clause-own
returns-clause-own c = λ job.
    own_stably (λ (p : Piece). p.job) (record { job = job; leaf = 0; nodes = []; started = 0; expected = 0; real = 0 }) c.in_ok-by_job.by_job.items c.sort_by_key.new.self.items
    (c.in_ok-sort_by_key.ensures.stable (λ (p : Piece). p.job) (always_returns_same _ _ _ (λ a r f k. search (rules, of_calls))))
    ∙ ap (filter (λ (p : Piece). p.job == job)) c.in_ok-by_job.ensures

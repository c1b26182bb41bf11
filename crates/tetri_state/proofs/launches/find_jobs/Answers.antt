use Rattle.std.proofs.Common.{◌≡◌, ◌∙◌, List, ap, subst, sym}
use Rattle.std.specs.List.{filter, sum_by}
use Rattle.std.specs.List.Sorted.{IsNonDecreasingBy}
use Rattle.std.proofs.lemmas.Result.{IfOk-weaker}
use Rattle.tetri_base.specs.Lists.{has}
use Rattle.tetri_strl.specs.declared.grants.Grant.{Grant}
use Rattle.tetri_space.specs.Space.{Bid, space}
use Rattle.tetri_space.specs.Total.{bid_worth}
use Rattle.tetri_state.specs.Launch.{worth_launched}
use Rattle.tetri_state.specs.declared.launches.Launched.{Launched}
use Rattle.tetri_state.proofs.RunLemmas.{ordered_rises, worth_in_order}
use Rattle.tetri_state.proofs.launches.find_jobs.Goals as goal

pub launched_by_runs-requires-2-clause-ascending : goal.launched_by_runs-requires-2-clause-ascending
launched_by_runs-requires-2-clause-ascending c =
    subst (IsNonDecreasingBy (λ (g : Grant). g.job)) (sym (c.as_slice.ensures ∙ c.in_ok-ordered.ensures)) (ordered_rises c.args.grants.now)

pub returns-clause-worth : goal.returns-clause-worth
returns-clause-worth c =
    let s = space c.args.inst.now in
    let a = c.args.grants.now in
    let starting = c.args.starting.now in
    let worth_of = λ (gs : List Grant). sum_by (bid_worth gs) (filter (λ (b : Bid). has starting b.job) s.bids) in
    IfOk-weaker c.launched_by_runs-2.result (λ (l : Launched). l.worth ≡ worth_of c.as_slice.result.now) (λ (l : Launched). l.worth ≡ worth_launched s a)
    (λ l is. is ∙ ap worth_of (c.as_slice.ensures ∙ c.in_ok-ordered.ensures) ∙ worth_in_order s a starting c.requires.starting) c.launched_by_runs-2.ensures.worth

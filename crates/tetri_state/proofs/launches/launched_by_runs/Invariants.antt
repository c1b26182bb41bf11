use Rattle.std.proofs.Common.{◌≡◌, ◌+◌, ◌++◌, drop, map}
use Rattle.std.specs.List.{filter, sum_by}
use Rattle.std.specs.List.Sorted.{IsNonDecreasingBy}
use Rattle.tetri_base.specs.Lists.{has}
use Rattle.tetri_strl.specs.declared.grants.Grant.{Grant}
use Rattle.tetri_space.specs.Space.{Bid, bid, space}
use Rattle.tetri_space.specs.Total.{bid_worth}
use Rattle.tetri_state.proofs.launches.launched_by_runs.Given as goal

abbrev pub invariant-loop-offer : goal.invariant-loop-offer
invariant-loop-offer l = record {
  ascending : IsNonDecreasingBy (λ (g : Grant). g.job) l.rest;
  jobs : l.jobs.items ++ map (λ (b : Bid). b.job) (filter (λ b. has l.starting b.job) (drop l.offer-index (map bid l.offer-items)))
      ≡ map (λ (b : Bid). b.job) (filter (λ b. has l.starting b.job) (space l.inst).bids);
  worth : l.worth + sum_by (bid_worth l.rest) (filter (λ b. has l.starting b.job) (drop l.offer-index (map bid l.offer-items)))
      ≡ sum_by (bid_worth l.grants) (filter (λ b. has l.starting b.job) (space l.inst).bids);
}

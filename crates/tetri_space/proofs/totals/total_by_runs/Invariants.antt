use Rattle.std.proofs.Common.{◌≡◌, ◌+◌, drop, map}
use Rattle.std.specs.List.{sum_by}
use Rattle.std.specs.List.Sorted.{IsNonDecreasingBy}
use Rattle.tetri_strl.specs.declared.grants.Grant.{Grant}
use Rattle.tetri_space.specs.Space.{bid, space}
use Rattle.tetri_space.specs.Total.{bid_worth, total_in}
use Rattle.tetri_space.proofs.totals.total_by_runs.Given as goal

abbrev pub invariant-loop-offer : goal.invariant-loop-offer
invariant-loop-offer l = record {
  ascending : IsNonDecreasingBy (λ (g : Grant). g.job) l.rest;
  so_far : l.total + sum_by (bid_worth l.rest) (drop l.offer-index (map bid l.offer-items)) ≡ total_in (space l.inst) l.grants;
}

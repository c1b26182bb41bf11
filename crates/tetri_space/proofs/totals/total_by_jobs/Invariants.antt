use Rattle.std.proofs.Common.{◌≡◌, ◌+◌, drop, map}
use Rattle.std.specs.List.{sum_by}
use Rattle.tetri_space.specs.Space.{bid, space}
use Rattle.tetri_space.specs.Total.{bid_worth, total_in}
use Rattle.tetri_space.proofs.totals.total_by_jobs.Given as goal

abbrev pub invariant-loop-offer : goal.invariant-loop-offer
invariant-loop-offer l = l.total + sum_by (bid_worth l.grants) (drop l.offer-index (map bid l.offer-items)) ≡ total_in (space l.inst) l.grants

use Rattle.std.proofs.Common.{◌≡◌, drop, map}
use Rattle.tetri_judge.specs.Wasted.{first_wasted, lesser}
use Rattle.tetri_space.specs.Space.{bid, space}
use Rattle.tetri_judge.proofs.wasted.wasted_by_jobs.Given as goal

abbrev pub invariant-loop-offer : goal.invariant-loop-offer
invariant-loop-offer l = lesser l.first (first_wasted (drop l.offer-index (map bid l.offer-items)) l.grants) ≡ first_wasted (space l.inst).bids l.grants

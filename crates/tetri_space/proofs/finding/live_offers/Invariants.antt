use Rattle.std.proofs.Common.{◌≡◌, ◌+◌, ◌++◌, drop, map}
use Rattle.tetri_space.specs.Partitions.{bids_left, live_bids}
use Rattle.tetri_space.specs.Space.{bid, space}
use Rattle.tetri_space.proofs.finding.live_offers.Given as goal

abbrev pub invariant-loop-offer : goal.invariant-loop-offer
invariant-loop-offer l =
    map bid l.live.items ++ bids_left l.inst.now (l.inst.now + l.inst.window) (drop l.offer-index (map bid l.offer-items)) ≡ live_bids (space l.inst)

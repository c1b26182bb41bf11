use Rattle.std.proofs.Common.{◌≡◌, ◌+◌, drop, map}
use Rattle.std.specs.List.{sum_by}
use Rattle.tetri_space.specs.Space.{bid, space}
use Rattle.tetri_space.specs.Total.{bid_top, tops_in}
use Rattle.tetri_space.proofs.totals.tops.Given as goal

abbrev pub invariant-loop-offer : goal.invariant-loop-offer
invariant-loop-offer l = l.total + sum_by (bid_top l.inst.now (l.inst.now + l.inst.window)) (drop l.offer-index (map bid l.offer-items)) ≡ tops_in (space l.inst)

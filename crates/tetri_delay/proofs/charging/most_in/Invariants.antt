use Rattle.std.proofs.Common.{◌≡◌, ◌-◌, ◌^◌, ◌<◌, max, min, map, drop}
use Rattle.tetri_delay.specs.Charged.{most_in}
use Rattle.tetri_space.specs.Space.{bid, space}
use Rattle.tetri_delay.proofs.charging.most_in.Given as goal

abbrev pub invariant-loop-offer : goal.invariant-loop-offer
invariant-loop-offer l = record {
  fits : l.most < 2 ^ 64;
  so_far : min (2 ^ 64 - 1) (max l.most (most_in (map bid (drop l.offer-index l.offer-items)))) ≡ min (2 ^ 64 - 1) (most_in (space l.inst).bids);
}

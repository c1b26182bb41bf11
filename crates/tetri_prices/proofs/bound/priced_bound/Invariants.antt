use Rattle.std.proofs.Common.{◌≡◌, ◌+◌, map, drop}
use Rattle.tetri_base.specs.Lists.{Each, sum_of}
use Rattle.tetri_space.specs.Partitions.{live_bids, parts_of, partitions}
use Rattle.tetri_space.specs.Space.{bid, space}
use Rattle.tetri_prices.specs.Priced.{bid_gain, listed}
use Rattle.tetri_prices.specs.Prices.{rows_of}
use Rattle.tetri_prices.proofs.BidLemmas.{IsReadyBid}
use Rattle.tetri_prices.proofs.bound.priced_bound.Given as goal

abbrev pub invariant-loop-offer : goal.invariant-loop-offer
invariant-loop-offer l = record {
  ready : Each (IsReadyBid (space l.fn.inst) (parts_of l.fn.parts)) (map bid (drop l.offer-index l.offer-items));
  so_far : l.gains + sum_of (bid_gain (space l.fn.inst) (partitions (space l.fn.inst)) (listed l.fn.inst.now (rows_of l.fn.prices)) l.fn.unit) (map bid (drop l.offer-index l.offer-items))
      ≡ sum_of (bid_gain (space l.fn.inst) (partitions (space l.fn.inst)) (listed l.fn.inst.now (rows_of l.fn.prices)) l.fn.unit) (live_bids (space l.fn.inst));
}

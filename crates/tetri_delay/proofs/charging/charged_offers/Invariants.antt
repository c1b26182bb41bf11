use Rattle.std.proofs.Common.{◌≡◌, ◌++◌, map, drop}
use Rattle.tetri_delay.specs.Charged.{charged_bid}
use Rattle.tetri_space.specs.Space.{bid, space}
use Rattle.tetri_delay.proofs.charging.charged_offers.Given as goal

abbrev pub invariant-loop-offer : goal.invariant-loop-offer
invariant-loop-offer l = map bid l.made.items ++ map (charged_bid l.rates l.jobs.first.now l.jobs.held.now l.inst.now l.grain) (map bid (drop l.offer-index l.offer-items))
    ≡ map (charged_bid l.rates l.jobs.first.now l.jobs.held.now l.inst.now l.grain) (space l.inst).bids

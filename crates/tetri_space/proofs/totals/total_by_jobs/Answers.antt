use Rattle.std.proofs.Common.{map, All, subst, sym, arith}
use Rattle.tetri_space.specs.Sound.{IsSoundBid}
use Rattle.tetri_space.specs.Space.{bid, space}
use Rattle.tetri_space.specs.Total.{bid_worth}
use Rattle.tetri_space.proofs.BidLemmas.{bid_has, next_sum}
use Rattle.tetri_space.proofs.TotalLemmas.{total_limit}
use Rattle.tetri_space.proofs.totals.total_by_jobs.Goals as goal

pub worth_among-total-requires : goal.worth_among-total-requires
worth_among-total-requires c =
    let all = subst (λ os. All (IsSoundBid (space c.args.inst.now)) (map bid os)) (sym c.deref-offer-items.ensures.value) c.requires.sound_bids in
    (bid_has (IsSoundBid (space c.args.inst.now)) _ _ c.offer-item.result all c.loop-offer-test.true c.offer-item.is).well_made.sound

pub overflow_add-total : goal.overflow_add-total
overflow_add-total c =
    let next = next_sum (bid_worth c.args.grants.now) _ _ c.offer-item.result c.loop-offer-test.true c.offer-item.is in
    let whole = total_limit (space c.args.inst.now) c.args.grants.now c.requires in
    omega (arith, next, whole, c.worth_among-total.ensures, c.loop-offer.invariant)

pub loop-offer-preserved : goal.loop-offer-preserved
loop-offer-preserved c =
    let next = next_sum (bid_worth c.args.grants.now) _ _ c.offer-item.result c.loop-offer-test.true c.offer-item.is in
    omega (arith, next, c.worth_among-total.ensures, c.loop-offer.invariant)

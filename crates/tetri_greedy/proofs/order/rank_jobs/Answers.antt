use Rattle.std.proofs.Common.{All, List, ap, map, refl, subst, sym}
use Rattle.tetri_space.specs.declared.instance.Offer.{Offer}
use Rattle.tetri_space.specs.Sound.{IsSoundBid}
use Rattle.tetri_space.specs.Space.{bid, space}
use Rattle.tetri_space.proofs.InstanceLaws.{bid_has}
use Rattle.tetri_greedy.proofs.RankLemmas.{ranked_more}
use Rattle.tetri_greedy.proofs.order.rank_jobs.Goals as goal

pub rank_of-requires-clause-good : goal.rank_of-requires-clause-good
rank_of-requires-clause-good c =
    let s = space c.args.inst.now in
    bid_has (IsSoundBid s) c.deref-offer-items.result.now c.loop-place.place c.offer-item.result
    (subst (λ (os : List Offer). All (IsSoundBid s) (map bid os)) (sym c.deref-offer-items.ensures.value) c.requires.sound_bids) c.loop-place-test.true c.offer-item.is

pub loop-place-preserved : goal.loop-place-preserved
loop-place-preserved c =
    let s = space c.args.inst.now in
    let both = ranked_more c.args.creed s c.deref-offer-items.result.now c.loop-place.place c.offer-item.result _ c.loop-place.made.items _
    (ap (map bid) (sym c.deref-offer-items.ensures.value)) c.loop-place-test.true c.offer-item.is refl c.rank_of.ensures.rank c.rank_of.ensures.small
    c.in_ok-push.ensures.items c.loop-place.invariant.each c.loop-place.invariant.jobs in
    record { each = both.0; jobs = both.1 }

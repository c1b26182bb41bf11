use Rattle.std.proofs.Common.{map, drop, All, ◌+◌, ◌∙◌, ap, subst, sym}
use Rattle.tetri_judge.specs.Wasted.{first_wasted, lesser}
use Rattle.tetri_space.specs.Sound.{IsSoundBid}
use Rattle.tetri_space.specs.Space.{bid, space}
use Rattle.tetri_space.proofs.InstanceLaws.{bid_has}
use Rattle.tetri_judge.proofs.WastedLemmas.{lesser-assoc, next_wasted}
use Rattle.tetri_judge.proofs.wasted.wasted_by_jobs.Goals as goal

pub waste_among-requires : goal.waste_among-requires
waste_among-requires c =
    let all = subst (λ os. All (IsSoundBid (space c.args.inst.now)) (map bid os)) (sym c.deref-offer-items.ensures.value) c.requires.sound_bids in
    (bid_has (IsSoundBid (space c.args.inst.now)) _ _ c.offer-item.result all c.loop-offer-test.true c.offer-item.is).well_made.sound

pub loop-offer-preserved : goal.loop-offer-preserved
loop-offer-preserved c =
    let left = first_wasted (drop (c.loop-offer.offer-index + 1) (map bid c.deref-offer-items.result.now)) c.args.grants.now in
    ap (λ o. lesser o left) c.lesser-first.ensures
    ∙ lesser-assoc c.loop-offer.first c.waste_among.result left
    ∙ ap (λ w. lesser c.loop-offer.first (lesser w left)) c.waste_among.ensures.place
    ∙ ap (lesser c.loop-offer.first) (sym (next_wasted _ _ c.offer-item.result c.args.grants.now c.loop-offer-test.true c.offer-item.is))
    ∙ c.loop-offer.invariant

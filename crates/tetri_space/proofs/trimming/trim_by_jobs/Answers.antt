use Rattle.std.proofs.Common.{◌++◌, ◌∙◌, List, map, All, subst, sym, ap, arith}
use Rattle.std.proofs.lemmas.List.{append-nil, drop_all, length-map}
use Rattle.tetri_space.specs.Sound.{IsSoundBid}
use Rattle.tetri_space.specs.Space.{Bid, bid, space}
use Rattle.tetri_space.proofs.BidLemmas.{bid_has}
use Rattle.tetri_space.proofs.TrimmedLemmas.{trim_next, trimmed_by}
use Rattle.tetri_space.proofs.trimming.trim_by_jobs.Goals as goal

pub trim_into-requires : goal.trim_into-requires
trim_into-requires c =
    let all = subst (λ os. All (IsSoundBid (space c.args.inst.now)) (map bid os)) (sym c.deref-offer-items.ensures.value) c.requires.sound_bids in
    (bid_has (IsSoundBid (space c.args.inst.now)) _ _ c.offer-item.result all c.loop-offer-test.true c.offer-item.is).well_made.sound

pub loop-offer-preserved : goal.loop-offer-preserved
loop-offer-preserved c =
    trim_next c.args.grants.now c.loop-offer.made c.trim_into.new.made c.deref-offer-items.result.now c.loop-offer.offer-index c.offer-item.result
    c.loop-offer-test.true c.offer-item.is c.in_ok-trim_into.ensures
    ∙ c.loop-offer.invariant

pub returns : goal.returns
returns c =
    let os = c.deref-offer-items.result.now in
    let i = c.loop-offer.offer-index in
    sym (append-nil c.loop-offer.made)
    ∙ ap (λ (bs : List Bid). c.loop-offer.made ++ trimmed_by c.args.grants.now bs) (sym (drop_all i (map bid os) (omega (arith, c.loop-offer-test.false, length-map os bid))))
    ∙ c.loop-offer.invariant

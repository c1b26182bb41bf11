use Rattle.std.proofs.Common.{◌<◌, ◌++◌, ◌∙◌, List, map, All, AllPairs, subst, sym, ap, arith}
use Rattle.std.proofs.lemmas.List.{append-nil, drop_all, length-map}
use Rattle.std.specs.List.Sorted.{IsNonDecreasingBy}
use Rattle.std.proofs.lemmas.List.Sorted.{IsNonDecreasingBy-drop}
use Rattle.tetri_strl.specs.declared.grants.Grant.{Grant}
use Rattle.tetri_space.specs.Sound.{IsSoundBid}
use Rattle.tetri_space.specs.Space.{Bid, bid, space}
use Rattle.tetri_space.proofs.BidLemmas.{bid_has}
use Rattle.tetri_space.proofs.TrimmedLemmas.{trim_turn, trimmed_by}
use Rattle.tetri_space.proofs.trimming.trim_by_runs.Goals as goal

pub trim_into-requires : goal.trim_into-requires
trim_into-requires c =
    let all = subst (λ os. All (IsSoundBid (space c.args.inst.now)) (map bid os)) (sym c.deref-offer-items.ensures.value) c.requires.sound.sound_bids in
    (bid_has (IsSoundBid (space c.args.inst.now)) _ _ c.offer-item.result all c.loop-offer-test.true c.offer-item.is).well_made.sound

pub loop-offer-preserved : goal.loop-offer-preserved
loop-offer-preserved c =
    let ascending = subst (λ os. AllPairs (λ (b d : Bid). b.job < d.job) (map bid os)) (sym c.deref-offer-items.ensures.value) c.requires.sound.ascending in
    record {
      ascending = subst (IsNonDecreasingBy (λ (g : Grant). g.job)) (sym c.split_at.ensures.back)
          (IsNonDecreasingBy-drop (λ (g : Grant). g.job) c.run_len.result c.loop-offer.rest.now c.loop-offer.invariant.ascending);
      so_far = trim_turn c.loop-offer.made c.trim_into.new.made c.deref-offer-items.result.now c.loop-offer.offer-index c.offer-item.result c.loop-offer.rest.now _ _ c.run_len.result
          ascending c.loop-offer-test.true c.offer-item.is c.split_at.ensures.front c.split_at.ensures.back c.run_len.ensures.run c.run_len.ensures.past c.in_ok-trim_into.ensures
          ∙ c.loop-offer.invariant.so_far;
    }

pub returns : goal.returns
returns c =
    let os = c.deref-offer-items.result.now in
    let i = c.loop-offer.offer-index in
    sym (append-nil c.loop-offer.made)
    ∙ ap (λ (bs : List Bid). c.loop-offer.made ++ trimmed_by c.loop-offer.rest.now bs) (sym (drop_all i (map bid os) (omega (arith, c.loop-offer-test.false, length-map os bid))))
    ∙ c.loop-offer.invariant.so_far

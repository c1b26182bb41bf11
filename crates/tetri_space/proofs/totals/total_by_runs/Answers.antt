use Rattle.std.proofs.Common.{◌<◌, map, All, AllPairs, subst, sym, arith}
use Rattle.std.specs.List.Sorted.{IsNonDecreasingBy}
use Rattle.std.proofs.lemmas.List.Sorted.{IsNonDecreasingBy-drop}
use Rattle.tetri_strl.specs.declared.grants.Grant.{Grant}
use Rattle.tetri_space.specs.Sound.{IsSoundBid}
use Rattle.tetri_space.specs.Space.{Bid, bid, space}
use Rattle.tetri_space.proofs.BidLemmas.{bid_has}
use Rattle.tetri_space.proofs.JobLemmas.{run_turn}
use Rattle.tetri_space.proofs.TotalLemmas.{total_limit}
use Rattle.tetri_space.proofs.totals.total_by_runs.Goals as goal

pub worth_among-total-requires : goal.worth_among-total-requires
worth_among-total-requires c =
    let all = subst (λ os. All (IsSoundBid (space c.args.inst.now)) (map bid os)) (sym c.deref-offer-items.ensures.value) c.requires.sound.sound_bids in
    (bid_has (IsSoundBid (space c.args.inst.now)) _ _ c.offer-item.result all c.loop-offer-test.true c.offer-item.is).well_made.sound

pub overflow_add-total : goal.overflow_add-total
overflow_add-total c =
    let ascending = subst (λ os. AllPairs (λ (b d : Bid). b.job < d.job) (map bid os)) (sym c.deref-offer-items.ensures.value) c.requires.sound.ascending in
    let turn = run_turn _ _ c.offer-item.result _ _ _ _ ascending c.loop-offer-test.true c.offer-item.is c.split_at.ensures.front c.split_at.ensures.back
    c.run_len.ensures.run c.run_len.ensures.past in
    let whole = total_limit (space c.args.inst.now) c.args.grants.now c.requires.sound in
    omega (arith, turn, whole, c.worth_among-total.ensures, c.loop-offer.invariant.so_far)

pub loop-offer-preserved : goal.loop-offer-preserved
loop-offer-preserved c =
    let ascending = subst (λ os. AllPairs (λ (b d : Bid). b.job < d.job) (map bid os)) (sym c.deref-offer-items.ensures.value) c.requires.sound.ascending in
    let turn = run_turn _ _ c.offer-item.result _ _ _ _ ascending c.loop-offer-test.true c.offer-item.is c.split_at.ensures.front c.split_at.ensures.back
    c.run_len.ensures.run c.run_len.ensures.past in
    record {
      ascending = subst (IsNonDecreasingBy (λ (g : Grant). g.job)) (sym c.split_at.ensures.back)
          (IsNonDecreasingBy-drop (λ (g : Grant). g.job) c.run_len.result c.loop-offer.rest.now c.loop-offer.invariant.ascending);
      so_far = omega (arith, turn, c.worth_among-total.ensures, c.loop-offer.invariant.so_far);
    }

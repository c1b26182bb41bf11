use Rattle.std.proofs.Common.{◌<◌, ◌++◌, ◌∷◌, [], ◌∙◌, List, ℕ, Vec, map, All, AllPairs, subst, sym, ap, arith}
use Rattle.std.specs.Global.{Global}
use Rattle.std.proofs.lemmas.List.{append-nil, drop_all, length-map, map-append}
use Rattle.std.specs.List.Sorted.{IsNonDecreasingBy}
use Rattle.std.proofs.lemmas.List.Sorted.{IsNonDecreasingBy-drop}
use Rattle.tetri_strl.specs.declared.grants.Grant.{Grant}
use Rattle.tetri_judge.specs.Wasted.{idle_of}
use Rattle.tetri_space.specs.Sound.{IsSoundBid}
use Rattle.tetri_space.specs.Space.{Bid, bid, space}
use Rattle.tetri_space.proofs.InstanceLaws.{bid_has}
use Rattle.tetri_judge.proofs.UnorderedLemmas.{idle_turn}
use Rattle.tetri_judge.proofs.unordered.idle_by_offer.Goals as goal

abbrev items_of : Vec ℕ Global → List ℕ
items_of ns = ns.items

pub idle_leaves-requires : goal.idle_leaves-requires
idle_leaves-requires c =
    let all = subst (λ os. All (IsSoundBid (space c.args.inst.now)) (map bid os)) (sym c.deref-offer-items.ensures.value) c.requires.sound.sound_bids in
    (bid_has (IsSoundBid (space c.args.inst.now)) _ _ c.offer-item.result all c.loop-offer-test.true c.offer-item.is).well_made.sound

pub loop-offer-preserved : goal.loop-offer-preserved
loop-offer-preserved c =
    let ascending = subst (λ os. AllPairs (λ (b d : Bid). b.job < d.job) (map bid os)) (sym c.deref-offer-items.ensures.value) c.requires.sound.ascending in
    let made = map items_of c.loop-offer.idle.items in
    let grown = ap (map items_of) c.in_ok-push.ensures.items ∙ map-append items_of c.loop-offer.idle.items (c.in_ok-leaves.leaves ∷ []) ∙ ap (λ ns. made ++ ns ∷ []) c.in_ok-leaves.ensures in
    record {
      ascending = subst (IsNonDecreasingBy (λ (g : Grant). g.job)) (sym c.split_at.ensures.back)
          (IsNonDecreasingBy-drop (λ (g : Grant). g.job) c.run_len.result c.loop-offer.rest.now c.loop-offer.invariant.ascending);
      so_far = idle_turn made (map items_of c.push.new.self.items) c.deref-offer-items.result.now c.loop-offer.offer-index c.offer-item.result c.loop-offer.rest.now _ _ c.run_len.result
          ascending c.loop-offer-test.true c.offer-item.is c.split_at.ensures.front c.split_at.ensures.back c.run_len.ensures.run c.run_len.ensures.past grown
          ∙ c.loop-offer.invariant.so_far;
    }

pub returns : goal.returns
returns c =
    let os = c.deref-offer-items.result.now in
    let i = c.loop-offer.offer-index in
    let made = map items_of c.loop-offer.idle.items in
    sym (append-nil made)
    ∙ ap (λ (bs : List Bid). made ++ map (idle_of c.loop-offer.rest.now) bs) (sym (drop_all i (map bid os) (omega (arith, c.loop-offer-test.false, length-map os bid))))
    ∙ c.loop-offer.invariant.so_far

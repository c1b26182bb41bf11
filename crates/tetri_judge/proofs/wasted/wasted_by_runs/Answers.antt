use Rattle.std.proofs.Common.{◌<◌, ◌∙◌, length, map, All, AllPairs, ap, subst, sym, arith}
use Rattle.std.specs.List.Sorted.{IsNonDecreasingBy}
use Rattle.std.proofs.lemmas.List.Sorted.{IsNonDecreasingBy-drop}
use Rattle.std.proofs.lemmas.List.{length-drop}
use Rattle.tetri_strl.specs.declared.grants.Grant.{Grant}
use Rattle.tetri_strl.specs.Tree.{tree}
use Rattle.tetri_space.specs.Sound.{IsSoundBid}
use Rattle.tetri_space.specs.Space.{Bid, bid, space}
use Rattle.tetri_space.proofs.InstanceLaws.{bid_has}
use Rattle.tetri_judge.proofs.WastedLemmas.{IsAtRun, before_next, none_here, rest_next, seen_more, some_here, waste_within}
use Rattle.tetri_judge.proofs.wasted.wasted_by_runs.Goals as goal

pub run_len-requires : goal.run_len-requires
run_len-requires c =
    subst (IsNonDecreasingBy (λ (g : Grant). g.job)) (sym c.loop-offer.invariant.rest) (IsNonDecreasingBy-drop (λ (g : Grant). g.job) c.loop-offer.seen c.args.grants.now c.requires.ascending)

pub waste_among-requires : goal.waste_among-requires
waste_among-requires c =
    let all = subst (λ os. All (IsSoundBid (space c.args.inst.now)) (map bid os)) (sym c.deref-offer-items.ensures.value) c.requires.sound.sound_bids in
    (bid_has (IsSoundBid (space c.args.inst.now)) _ _ c.offer-item.result all c.loop-offer-test.true c.offer-item.is).well_made.sound

pub overflow_add-result : goal.overflow_add-result
overflow_add-result c =
    let inside = waste_within c.split_at.result.0.now c.offer-item.result.job c.in-Some.place (tree c.offer-item.result.expr) (sym c.waste_among.ensures.place ∙ c.in-Some.is) in
    let left = ap length c.loop-offer.invariant.rest ∙ length-drop c.loop-offer.seen c.args.grants.now in
    omega (arith, inside, left, c.split_at.ensures.front_len, c.run_len.ensures.bound, c.loop-offer.invariant.within)

pub returns-in-Some : goal.returns-in-Some
returns-in-Some c =
    let ascending = subst (λ os. AllPairs (λ (b d : Bid). b.job < d.job) (map bid os)) (sym c.deref-offer-items.ensures.value) c.requires.sound.ascending in
    let at : IsAtRun c.deref-offer-items.result.now c.loop-offer.offer-index c.offer-item.result c.args.grants.now c.loop-offer.rest.now c.split_at.result.0.now c.loop-offer.seen c.run_len.result = record {
      ascending = ascending;
      some_left = c.loop-offer-test.true;
      is = c.offer-item.is;
      within = c.loop-offer.invariant.within;
      rest_is = c.loop-offer.invariant.rest;
      run_is = c.split_at.ensures.front;
      run_within = c.run_len.ensures.bound;
      before = c.loop-offer.invariant.before;
      own = c.run_len.ensures.run;
      past = c.run_len.ensures.past;
    } in
    sym (some_here _ _ _ _ _ _ _ _ at c.in-Some.place (sym c.waste_among.ensures.place ∙ c.in-Some.is)) ∙ c.loop-offer.invariant.so_far

pub loop-offer-preserved : goal.loop-offer-preserved
loop-offer-preserved c =
    let ascending = subst (λ os. AllPairs (λ (b d : Bid). b.job < d.job) (map bid os)) (sym c.deref-offer-items.ensures.value) c.requires.sound.ascending in
    let at : IsAtRun c.deref-offer-items.result.now c.loop-offer.offer-index c.offer-item.result c.args.grants.now c.loop-offer.rest.now c.split_at.result.0.now c.loop-offer.seen c.run_len.result = record {
      ascending = ascending;
      some_left = c.loop-offer-test.true;
      is = c.offer-item.is;
      within = c.loop-offer.invariant.within;
      rest_is = c.loop-offer.invariant.rest;
      run_is = c.split_at.ensures.front;
      run_within = c.run_len.ensures.bound;
      before = c.loop-offer.invariant.before;
      own = c.run_len.ensures.run;
      past = c.run_len.ensures.past;
    } in
    record {
      within = seen_more _ _ _ _ _ _ _ _ at;
      rest = c.split_at.ensures.back ∙ rest_next _ _ _ _ _ _ _ _ at;
      before = before_next _ _ _ _ _ _ _ _ at;
      so_far = sym (none_here _ _ _ _ _ _ _ _ at (sym c.waste_among.ensures.place ∙ c.in_default.is)) ∙ c.loop-offer.invariant.so_far;
    }

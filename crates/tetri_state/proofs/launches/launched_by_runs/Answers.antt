use Rattle.std.proofs.Common.{◌<◌, ◌+◌, ◌∙◌, drop, map, All, AllPairs, Bool, subst, sym, arith}
use Rattle.std.specs.List.Sorted.{IsNonDecreasingBy}
use Rattle.std.proofs.lemmas.List.Sorted.{IsNonDecreasingBy-drop}
use Rattle.tetri_base.specs.Lists.{has}
use Rattle.tetri_strl.specs.declared.grants.Grant.{Grant}
use Rattle.tetri_space.proofs.InstanceLaws.{bid_has, next_bid, total_limit}
use Rattle.tetri_space.specs.Sound.{IsSoundBid}
use Rattle.tetri_space.specs.Space.{Bid, bid, space}
use Rattle.tetri_state.proofs.RunLemmas.{next_passed, next_told, part_le_total, worth_passed, worth_taken}
use Rattle.tetri_state.proofs.launches.launched_by_runs.Goals as goal
use Rattle.tetri_state.proofs.launches.launched_by_runs.Goals.{then-is_among+in_ok-push, else-is_among}

pub worth_among-worth-requires : goal.worth_among-worth-requires
worth_among-worth-requires c =
    let all = subst (λ os. All (IsSoundBid (space c.args.inst.now)) (map bid os)) (sym c.deref-offer-items.ensures.value) c.requires.sound.sound_bids in
    (bid_has (IsSoundBid (space c.args.inst.now)) _ _ c.offer-item.result all c.loop-offer-test.true c.offer-item.is).well_made.sound

pub overflow_add-worth : goal.overflow_add-worth
overflow_add-worth c =
    let s = space c.args.inst.now in
    let p : Bid → Bool = λ b. has c.args.starting.now b.job in
    let ascending = subst (λ os. AllPairs (λ (b d : Bid). b.job < d.job) (map bid os)) (sym c.deref-offer-items.ensures.value) c.requires.sound.ascending in
    let turn = worth_taken p _ _ c.offer-item.result _ _ _ _ ascending c.loop-offer-test.true c.offer-item.is c.split_at.ensures.front c.split_at.ensures.back
    c.run_len.ensures.run c.run_len.ensures.past (sym c.is_among.ensures ∙ c.if-is_among.true) in
    omega (arith, turn, c.worth_among-worth.ensures, c.loop-offer.invariant.worth, part_le_total s c.args.grants.now p, total_limit s c.args.grants.now c.requires.sound)

pub loop-offer-preserved : goal.loop-offer-preserved
loop-offer-preserved c =
    let i = c.loop-offer.offer-index in
    let o = c.offer-item.result in
    let os = c.deref-offer-items.result.now in
    let p : Bid → Bool = λ b. has c.args.starting.now b.job in
    let left = drop (i + 1) (map bid os) in
    let next = next_bid os i o c.loop-offer-test.true c.offer-item.is in
    let ascending = subst (λ os. AllPairs (λ (b d : Bid). b.job < d.job) (map bid os)) (sym c.deref-offer-items.ensures.value) c.requires.sound.ascending in
    let rising = subst (IsNonDecreasingBy (λ (g : Grant). g.job)) (sym c.split_at.ensures.back)
    (IsNonDecreasingBy-drop (λ (g : Grant). g.job) c.run_len.result c.loop-offer.rest.now c.loop-offer.invariant.ascending) in
    elim c.if-is_among.branch [
      | then-is_among+in_ok-push w ↦
          let starts = sym c.is_among.ensures ∙ w.if-is_among.true in
          let turn = worth_taken p os i o _ _ _ _ ascending c.loop-offer-test.true c.offer-item.is c.split_at.ensures.front c.split_at.ensures.back
          c.run_len.ensures.run c.run_len.ensures.past starts in
          rw (w.jobs-is, w.worth-is, w.rest-is, w.in_ok-push.ensures.items)
          (record {
            ascending = rising;
            jobs = next_told p (λ (b : Bid). b.job) c.loop-offer.jobs.items (bid o) left (drop i (map bid os)) next starts ∙ c.loop-offer.invariant.jobs;
            worth = omega (arith, turn, w.worth_among-worth.ensures, c.loop-offer.invariant.worth);
          })
      | else-is_among w ↦
          let waits = sym c.is_among.ensures ∙ w.if-is_among.false in
          let turn = worth_passed p os i o _ _ _ _ ascending c.loop-offer-test.true c.offer-item.is c.split_at.ensures.front c.split_at.ensures.back
          c.run_len.ensures.run c.run_len.ensures.past waits in
          rw (w.jobs-is, w.worth-is, w.rest-is)
          (record {
            ascending = rising;
            jobs = next_passed p (λ (b : Bid). b.job) c.loop-offer.jobs.items (bid o) left (drop i (map bid os)) next waits ∙ c.loop-offer.invariant.jobs;
            worth = omega (arith, turn, c.loop-offer.invariant.worth);
          })
    ]

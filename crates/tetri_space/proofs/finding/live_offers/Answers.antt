use Rattle.std.proofs.Common.{◌+◌, ◌++◌, drop, map, All, subst, sym, ap, ◌∙◌}
use Rattle.std.specs.Option.{option_map}
use Rattle.tetri_strl.specs.Tree.{tree}
use Rattle.tetri_space.specs.Partitions.{bids_left}
use Rattle.tetri_space.specs.Sound.{IsSoundBid}
use Rattle.tetri_space.specs.Space.{bid, space}
use Rattle.tetri_space.proofs.BidLemmas.{bid_has}
use Rattle.tetri_space.proofs.FindingLemmas.{left_some, left_none}
use Rattle.tetri_space.proofs.finding.live_offers.Goals as goal
use Rattle.tetri_space.proofs.finding.live_offers.Goals.{in-Some+in_ok-push, in_default}

pub prune-requires : goal.prune-requires
prune-requires c =
    let all = subst (λ os. All (IsSoundBid (space c.args.inst.now)) (map bid os)) (sym c.deref-offer-items.ensures.value) c.requires.sound_bids in
    (bid_has (IsSoundBid (space c.args.inst.now)) _ _ c.offer-item.result all c.loop-offer-test.true c.offer-item.is).well_made.sound

pub loop-offer-preserved : goal.loop-offer-preserved
loop-offer-preserved c =
    let from = c.args.inst.now.now in
    let to = c.args.inst.now.now + c.args.inst.now.window in
    let os = c.deref-offer-items.result.now in
    let i = c.loop-offer.offer-index in
    elim c.match-branch-2.branch [
      | in-Some+in_ok-push w ↦
          ap (λ v. map bid v.items ++ bids_left from to (drop (i + 1) (map bid os))) w.live-is
          ∙ left_some from to os i c.offer-item.result c.loop-offer-test.true c.offer-item.is c.loop-offer.live.items w.push.new.self.items w.in-Some.expr
          (ap (option_map tree) (sym w.in-Some.is) ∙ c.in_ok-expr.ensures.expression) w.in_ok-push.ensures.items
          ∙ c.loop-offer.invariant
      | in_default w ↦
          ap (λ v. map bid v.items ++ bids_left from to (drop (i + 1) (map bid os))) w.live-is
          ∙ left_none from to os i c.offer-item.result c.loop-offer-test.true c.offer-item.is c.loop-offer.live.items
          (ap (option_map tree) (sym w.in_default.is) ∙ c.in_ok-expr.ensures.expression)
          ∙ c.loop-offer.invariant
    ]

use Rattle.std.proofs.Common.{◌+◌, ◌++◌, ◌∷◌, [], ◌∙◌, Bool, List, ap, append_assoc, drop, filter, map, All, subst, sym}
use Rattle.tetri_base.specs.Lists.{has}
use Rattle.tetri_space.proofs.InstanceLaws.{bid_has, next_bid}
use Rattle.tetri_space.specs.Sound.{IsSoundBid}
use Rattle.tetri_space.specs.Space.{Bid, bid, space}
use Rattle.tetri_accounts.specs.Rows.{row_of}
use Rattle.tetri_accounts.specs.declared.row.Row.{Row}
use Rattle.tetri_accounts.proofs.LaunchLemmas.{told_first}
use Rattle.tetri_accounts.proofs.slot.add_rows.Goals as goal

pub add_row-requires-clause-sound : goal.add_row-requires-clause-sound
add_row-requires-clause-sound c =
    let all = subst (λ os. All (IsSoundBid (space c.args.inst.now)) (map bid os)) (sym c.deref-offer-items.ensures.value) c.requires.sound.sound_bids in
    (bid_has (IsSoundBid (space c.args.inst.now)) _ _ c.offer-item.result all c.loop-offer-test.true c.offer-item.is).well_made.sound

pub loop-offer-preserved : goal.loop-offer-preserved
loop-offer-preserved c =
    let l = c.loop-offer in
    let i = l.offer-index in
    let o = c.offer-item.result in
    let os = c.deref-offer-items.result.now in
    let p : Bid → Bool = λ b. has c.args.launched.now b.job in
    let f : Bid → Row = row_of c.args.grants.now c.args.pieces.now c.args.inst.now.now in
    let rest : List Bid = drop (i + 1) (map bid os) in
    ap (λ rs. rs ++ map f (filter p rest)) c.in_ok-add_row.ensures
    ∙ append_assoc l.running.items (map f (filter p (bid o ∷ []))) (map f (filter p rest))
    ∙ ap (λ rs. l.running.items ++ rs) (told_first p f (bid o) rest ∙ ap (λ bs. map f (filter p bs)) (sym (next_bid os i o c.loop-offer-test.true c.offer-item.is)))
    ∙ l.invariant

use Rattle.std.proofs.Common.{◌≡◌, ◌∙◌, All, Option, Some, None, get_or, length, map, is_some, false, sym, ap, subst, refl, arith, ◌<◌, ◌≤◌}
use Rattle.std.proofs.lemmas.List.{get_or-map, length-map, take_all}
use Rattle.std.proofs.lemmas.List.Elements.{All-more}
use Rattle.tetri_strl.specs.Thrifty.{IsThriftyFor}
use Rattle.tetri_space.specs.Sound.{IsSoundBid}
use Rattle.tetri_space.specs.Space.{Bid, bid, space}
use Rattle.tetri_space.proofs.InstanceLaws.{bid_has}
use Rattle.tetri_tables.proofs.launches.is_thrifty.Goals as goal

none_is : {X : Type 0} (o : Option X) → is_some o ≡ false → o ≡ None
none_is None e = refl
none_is (Some x) e = absurd cc

pub waste-requires : goal.waste-requires
waste-requires c =
    let all = subst (λ os. All (IsSoundBid (space c.args.inst.now)) (map bid os)) (sym c.deref-offer-items.ensures.value) c.requires.sound_bids in
    (bid_has (IsSoundBid (space c.args.inst.now)) _ _ c.offer-item.result all c.loop-offer-test.true c.offer-item.is).well_made.sound

pub loop-offer-preserved : goal.loop-offer-preserved
loop-offer-preserved c =
    let P : Bid → Type 0 = λ b. IsThriftyFor c.args.a.now b.job b.expr in
    let os = c.args.inst.now.jobs.items in
    let i = c.loop-offer.offer-index in
    let o = c.offer-item.result in
    let is : o ≡ get_or os i o = c.offer-item.is ∙ ap (λ xs. get_or xs i o) c.deref-offer-items.ensures.value in
    let lt : i < length os = subst (λ xs. i < length xs) c.deref-offer-items.ensures.value c.loop-offer-test.true in
    let thrifty : P (bid o) = c.waste.ensures.thrifty.0 (none_is c.waste.result (sym c.is_some.ensures ∙ c.if-is_some.false)) in
    All-more P (map bid os) i (bid o) (omega (arith, lt, length-map os bid)) c.loop-offer.invariant
    (subst P (ap bid is ∙ sym (get_or-map bid os i o (bid o) lt)) thrifty)

pub returns : goal.returns
returns c = λ t.
    let P : Bid → Type 0 = λ b. IsThriftyFor c.args.a.now b.job b.expr in
    let os = c.args.inst.now.jobs.items in
    let i = c.loop-offer.offer-index in
    let past : length (map bid os) ≤ i = omega (arith, c.loop-offer-test.false, ap length c.deref-offer-items.ensures.value, length-map os bid) in
    subst (All P) (take_all i (map bid os) past) c.loop-offer.invariant

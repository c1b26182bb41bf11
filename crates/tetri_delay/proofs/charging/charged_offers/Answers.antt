use Rattle.std.proofs.Common.{ap, arith, get_or, length, map, subst, sym, ◌<◌, ◌≡◌, ◌∙◌, List}
use Rattle.std.proofs.lemmas.List.{get_or-map, length-map}
use Rattle.tetri_space.specs.Sound.{IsSoundBid}
use Rattle.tetri_space.specs.Space.{bid, space}
use Rattle.tetri_space.specs.declared.instance.Offer.{Offer}
use Rattle.tetri_delay.proofs.charging.charged_offers.Goals as goal

pub charged_offer-requires-clause-sound : goal.charged_offer-requires-clause-sound
charged_offer-requires-clause-sound c =
    let s = space c.args.inst.now in
    let item : Offer = c.offer-item.result in
    let k = c.loop-offer.offer-index in
    let items = c.args.inst.now.jobs.items in
    let within : k < length items = omega (arith, c.loop-offer-test.true, ap (λ (xs : List Offer). length xs) c.deref-offer-items.ensures.value) in
    let at : item ≡ get_or items k item = c.offer-item.is ∙ ap (λ (xs : List Offer). get_or xs k item) c.deref-offer-items.ensures.value in
    let is : get_or (map bid items) k (bid item) ≡ bid item = get_or-map bid items k item (bid item) within ∙ sym (ap bid at) in
    (subst (IsSoundBid s) is (c.requires.sound.sound_bids k (bid item) (omega (arith, length-map items bid, within)))).well_made.sound

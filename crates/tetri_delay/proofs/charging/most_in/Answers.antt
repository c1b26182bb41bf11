use Rattle.std.proofs.Common.{List, ap, arith, map}
use Rattle.std.proofs.lemmas.List.{drop_all}
use Rattle.tetri_delay.specs.Charged.{most_in}
use Rattle.tetri_space.specs.Space.{bid, space}
use Rattle.tetri_space.specs.declared.instance.Offer.{Offer}
use Rattle.tetri_delay.proofs.ChargedLemmas.{most_small}
use Rattle.tetri_delay.proofs.charging.most_in.Goals as goal

pub returns : goal.returns
returns c =
    let s = space c.args.inst.now in
    let none = ap (λ (os : List Offer). most_in (map bid os)) (drop_all c.loop-offer.offer-index _ c.loop-offer-test.false) in
    omega (arith, none, c.loop-offer.invariant.so_far, c.loop-offer.invariant.fits, most_small s s.bids c.requires.sound_bids)

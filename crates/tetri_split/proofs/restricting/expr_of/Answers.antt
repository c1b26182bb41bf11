use Rattle.std.proofs.Common.{rules, get_or, refl}
use Rattle.std.proofs.lemmas.List.{get_or_default}
use Rattle.std.proofs.lemmas.List.Sorted.{answers_always}
use Rattle.tetri_space.specs.declared.instance.Offer.{Offer}
use Rattle.tetri_space.proofs.InstanceLaws.{found_bid, searched_bid}
use Rattle.tetri_split.proofs.restricting.expr_of.Goals as goal

pub returns-in-Ok : goal.returns-in-Ok
returns-in-Ok c =
    let equal = c.in-Ok.ensures.position (λ (o : Offer). o.job) (answers_always _ _ _ (λ f a r g called. search rules)) in
    let os = c.args.offers.now in
    let found = c.index-offers-at.result in
    let o = get_or os c.in-Ok.at found in
    found_bid os c.requires c.args.job c.in-Ok.at o c.in-Ok.ensures.bound (get_or_default os c.in-Ok.at found o c.in-Ok.ensures.bound) (equal found)

pub returns-in-Err : goal.returns-in-Err
returns-in-Err c =
    let parted = c.in-Err.ensures.position (λ (o : Offer). o.job) (answers_always _ _ _ (λ f a r g called. search rules)) in
    searched_bid c.args.offers.now c.requires c.args.job c.args.offers.now c.in-Err.field-0 refl parted

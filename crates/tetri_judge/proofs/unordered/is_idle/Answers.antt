use Rattle.std.proofs.Common.{◌==◌, ◌<◌, ◌∙◌, ℕ, List, Vec, [], map, length, get_or, rules, subst, sym, ap, arith}
use Rattle.std.specs.Global.{Global}
use Rattle.std.specs.List.{list_any}
use Rattle.std.specs.Ordering.{nat_cmp}
use Rattle.std.proofs.lemmas.Cmp.{ranked}
use Rattle.std.proofs.lemmas.List.{get_or-map, length-map}
use Rattle.std.proofs.lemmas.List.Sorted.{answers_always}
use Rattle.tetri_base.proofs.ListLaws.{EachPair-from}
use Rattle.tetri_judge.proofs.UnorderedLemmas.{found_idle, missing_idle}
use Rattle.tetri_space.specs.Space.{Bid, bid, space}
use Rattle.tetri_space.specs.declared.instance.Offer.{Offer}
use Rattle.tetri_space.proofs.InstanceLaws.{searched_bid}
use Rattle.tetri_judge.proofs.unordered.is_idle.Goals as goal

pub returns-in-Err : goal.returns-in-Err
returns-in-Err c =
    let parted = c.in-Err.ensures.position (λ (o : Offer). o.job) (answers_always _ _ _ (λ f a r g called. search rules)) in
    sym (missing_idle (space c.args.inst.now).bids _ c.args.grant.now (searched_bid c.args.inst.now.jobs.items c.requires.sound.ascending c.args.grant.now.job c.deref.result.now c.in-Err.field-0 c.deref.ensures.value parted))

abbrev items_of : Vec ℕ Global → List ℕ
items_of ns = ns.items

pub returns-in-Ok : goal.returns-in-Ok
returns-in-Ok c =
    let os = c.args.inst.now.jobs.items in
    let idle = c.args.idle.now in
    let g = c.args.grant.now in
    let at = c.in-Ok.at in
    let items = c.deref.ensures.value in
    let equal = c.in-Ok.ensures.position (λ (o : Offer). o.job) (answers_always _ _ _ (λ f a r g called. search rules)) in
    let lt : at < length os = subst (λ (xs : List Offer). at < length xs) items c.in-Ok.ensures.bound in
    let more : at < length idle = omega (arith, lt, length-map os bid, c.requires.as_many) in
    let found = found_idle os (map items_of idle) at g (EachPair-from (λ (b d : Bid). b.job < d.job) (map bid os) c.requires.sound.ascending) lt (omega (arith, more, length-map idle items_of))
    (λ o. ranked (get_or os at o).job g.job _ (sym (ap (λ (xs : List Offer). nat_cmp (get_or xs at o).job g.job) (sym items) ∙ equal o))) in
    c.has_leaf.ensures
    ∙ ap (list_any (λ n. n == g.leaf)) (c.deref-in-Ok.ensures.value ∙ ap items_of c.index-idle-at.is ∙ sym (get_or-map items_of idle at c.index-idle-at.result [] more))
    ∙ sym found

use Rattle.std.proofs.Common.{rules, ◌<◌, length, get_or, subst, sym, ap, ◌∙◌}
use Rattle.std.specs.Ordering.{nat_cmp}
use Rattle.std.proofs.lemmas.List.Sorted.{answers_always}
use Rattle.tetri_space.specs.declared.instance.Offer.{Offer}
use Rattle.tetri_space.proofs.SearchLemmas.{found_bid, searched_bid}
use Rattle.tetri_space.proofs.leaves.expr_of.Goals as goal

pub returns-in-Ok : goal.returns-in-Ok
returns-in-Ok c =
    let equal = c.in-Ok.ensures.position (λ (o : Offer). o.job) (answers_always _ _ _ (λ f a r g called. search rules)) in
    let items = c.deref.ensures.value in
    found_bid c.args.inst.now.jobs.items c.requires.ascending c.args.job c.in-Ok.at c.index.result.now
    (subst (λ os. c.in-Ok.at < length os) items c.in-Ok.ensures.bound) c.index.ensures
    (ap (λ (o : Offer). nat_cmp o.job c.args.job) (c.index.ensures ∙ ap (λ os. get_or os c.in-Ok.at c.index.result.now) (sym items)) ∙ equal c.index.result.now)

pub returns-in-Err : goal.returns-in-Err
returns-in-Err c =
    let parted = c.in-Err.ensures.position (λ (o : Offer). o.job) (answers_always _ _ _ (λ f a r g called. search rules)) in
    searched_bid c.args.inst.now.jobs.items c.requires.ascending c.args.job c.deref.result.now c.in-Err.field-0 c.deref.ensures.value parted

use Rattle.std.proofs.Common.{◌+◌, ◌<◌, ◌==◌, ◌&&◌, All, List, length, subst, sym, ◌∙◌}
use Rattle.tetri_strl.specs.Aligned.{EachLeaf}
use Rattle.tetri_strl.specs.Tree.{tree}
use Rattle.tetri_space.specs.Space.{Bid}
use Rattle.tetri_compile.specs.Sizes.{StartsInWindow, covers, leaves_in}
use Rattle.tetri_compile.proofs.SizeLemmas.{each_of_offer, any_leaf_next}
use Rattle.tetri_compile.proofs.sizes.hold_leaves.Goals as goal

pub hold_slots-requires : goal.hold_slots-requires
hold_slots-requires c =
    subst (λ n. EachLeaf (λ l. (l.set < n) × StartsInWindow c.args.now l) (tree c.offer-item.result.expr)) (sym c.loop-offer.auto.named)
    (each_of_offer (λ l. (l.set < length c.args.named.now) × StartsInWindow c.args.now l) c.offers-offer-items.result.now c.loop-offer.offer-index c.offer-item.result
    c.loop-offer-test.true c.offer-item.is
    (subst (λ (bs : List Bid). All (λ l. (l.set < length c.args.named.now) × StartsInWindow c.args.now l) (leaves_in bs)) (sym c.offers-offer-items.ensures) c.requires))

pub loop-offer-preserved : goal.loop-offer-preserved
loop-offer-preserved c = λ k i lt.
    any_leaf_next (λ m. covers m (c.args.now + i) && m.set == k) c.offers-offer-items.result.now c.loop-offer.offer-index c.offer-item.result _ _ c.loop-offer-test.true c.offer-item.is
    (c.hold_slots.ensures k i lt)
    ∙ c.loop-offer.invariant k i lt

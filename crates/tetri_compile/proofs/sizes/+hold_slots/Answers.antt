use Rattle.std.proofs.Common.{◌≡◌, ◌+◌, ◌<◌, ◌==◌, ◌&&◌, ◌||◌, List, [], ◌∷◌, length, drop, set, subst, slice_index_or, ap, sym, ◌∙◌, bit_or}
use Rattle.std.specs.List.{list_any}
use Rattle.tetri_strl.specs.Aligned.{EachLeaf, EachLeafOf}
use Rattle.tetri_strl.specs.declared.expr.Expr.{Expr}
use Rattle.tetri_strl.specs.declared.expr.Leaf.{Leaf}
use Rattle.tetri_strl.specs.Tree.{leaves, tree, trees}
use Rattle.tetri_compile.specs.Sizes.{StartsInWindow, covers, has_slot}
use Rattle.tetri_compile.proofs.KidLemmas.{each_kid, kid_leaves, kids_next, any_next}
use Rattle.tetri_strl.proofs.ExprLaws.{tree-One}
use Rattle.tetri_compile.proofs.HeldLemmas.{leaf_held}
use Rattle.tetri_compile.proofs.sizes.+hold_slots.Goals as goal

pub loop-kid-init : goal.loop-kid-init
loop-kid-init t c = record {
  good = each_kid (λ m. (m.set < length c.args.named.now) × StartsInWindow c.args.now m) c.args.e.now c.in-Max.kids c.deref-kid-items.result.now c.in-Max.is c.deref-kid-items.ensures.value c.requires;
  so_far = λ k i lt.
      ap (λ ls. has_slot (slice_index_or c.args.named.now k 0) i || list_any (λ m. covers m (c.args.now + i) && m.set == k) ls)
      (kid_leaves c.args.e.now c.in-Max.kids c.deref-kid-items.result.now c.in-Max.is c.deref-kid-items.ensures.value);
}

pub loop-kid-preserved : goal.loop-kid-preserved
loop-kid-preserved t c = record {
  good =
      subst (λ n. EachLeafOf (λ m. (m.set < n) × StartsInWindow c.args.now m) (trees (drop (c.loop-kid.kid-index + 1) c.deref-kid-items.result.now))) (sym c.hold_slots-in-loop-kid.auto.named)
      (subst (EachLeafOf (λ m. (m.set < length c.loop-kid.named) × StartsInWindow c.args.now m))
      (kids_next c.deref-kid-items.result.now c.loop-kid.kid-index c.kid-item.result c.loop-kid-test.true c.kid-item.is) c.loop-kid.invariant.good).1;
  so_far = λ k i lt.
      any_next (λ m. covers m (c.args.now + i) && m.set == k) c.deref-kid-items.result.now c.loop-kid.kid-index c.kid-item.result _ _ c.loop-kid-test.true c.kid-item.is
      (c.hold_slots-in-loop-kid.ensures k i lt)
      ∙ c.loop-kid.invariant.so_far k i lt;
}

pub returns-in-One : goal.returns-in-One
returns-in-One t c =
    let at : leaves (tree c.args.e.now) ≡ c.in-One.leaf ∷ [] = ap (λ (e : Expr). leaves (tree e)) c.in-One.is ∙ ap leaves (tree-One c.in-One.leaf) in
    let good : (c.in-One.leaf.set < length c.args.named.now) × StartsInWindow c.args.now c.in-One.leaf = subst (EachLeaf (λ l. (l.set < length c.args.named.now) × StartsInWindow c.args.now l)) (ap tree c.in-One.is ∙ tree-One c.in-One.leaf) c.requires in
    λ k i lt.
    ap (λ m. has_slot (slice_index_or (set c.args.named.now c.in-One.leaf.set (bit_or (slice_index_or c.args.named.now c.in-One.leaf.set 0) m)) k 0) i) c.slots_of.ensures
    ∙ leaf_held c.args.now i k c.in-One.leaf c.args.named.now good.0 good.1 lt
    ∙ ap (λ (ls : List Leaf). has_slot (slice_index_or c.args.named.now k 0) i || list_any (λ l. covers l (c.args.now + i) && l.set == k) ls) (sym at)

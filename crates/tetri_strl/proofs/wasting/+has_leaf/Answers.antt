use Rattle.std.proofs.Common.{◌==◌, ℕ, Bool, ◌+◌, drop, sym, ap, ◌∙◌}
use Rattle.std.specs.List.{list_any}
use Rattle.tetri_strl.specs.Tree.{numbers, numbers_of, tree, trees}
use Rattle.tetri_strl.proofs.TreeLemmas.{trees_more, trees_end}
use Rattle.tetri_strl.proofs.WasteLemmas.{any_left, any_right}
use Rattle.tetri_strl.proofs.wasting.+has_leaf.Goals as goal

pub returns-then-has_leaf : goal.returns-then-has_leaf
returns-then-has_leaf t c =
    let items = c.deref-part-items.result.now in
    let i = c.loop-part.part-index in
    let e = c.part-item.result in
    let asked : ℕ → Bool = λ n. n == c.args.leaf in
    let more = ap (λ ts. list_any asked (numbers_of ts)) (trees_more items i e c.loop-part-test.true c.part-item.is) in
    sym (any_left asked (numbers (tree e)) (numbers_of (trees (drop (i + 1) items))) (sym c.has_leaf-in-loop-part.ensures ∙ c.if-has_leaf.true)) ∙ sym more ∙ c.loop-part.invariant

pub loop-part-preserved : goal.loop-part-preserved
loop-part-preserved t c =
    let items = c.deref-part-items.result.now in
    let i = c.loop-part.part-index in
    let e = c.part-item.result in
    let asked : ℕ → Bool = λ n. n == c.args.leaf in
    let more = ap (λ ts. list_any asked (numbers_of ts)) (trees_more items i e c.loop-part-test.true c.part-item.is) in
    sym (any_right asked (numbers (tree e)) (numbers_of (trees (drop (i + 1) items))) (sym c.has_leaf-in-loop-part.ensures ∙ c.if-has_leaf.false)) ∙ sym more ∙ c.loop-part.invariant

pub returns-after-loop-part : goal.returns-after-loop-part
returns-after-loop-part t c =
    let asked : ℕ → Bool = λ n. n == c.args.leaf in
    sym (ap (λ ts. list_any asked (numbers_of ts)) (trees_end c.deref-part-items.result.now c.loop-part.part-index c.loop-part-test.false)) ∙ c.loop-part.invariant

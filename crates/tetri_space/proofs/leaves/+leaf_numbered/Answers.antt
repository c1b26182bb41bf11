use Rattle.std.proofs.Common.{◌==◌, sym, ap, ◌∙◌}
use Rattle.std.specs.List.{find}
use Rattle.tetri_strl.specs.declared.expr.Leaf.{Leaf}
use Rattle.tetri_strl.specs.Tree.{leaves, tree}
use Rattle.tetri_space.proofs.SearchLemmas.{find-append_found, find-append_none, next_leaves}
use Rattle.tetri_space.proofs.leaves.+leaf_numbered.Goals as goal

pub returns-in-Some : goal.returns-in-Some
returns-in-Some t c =
    let next = next_leaves c.deref-part-items.result.now c.loop-part.part-index c.part-item.result c.loop-part-test.true c.part-item.is in
    let found = sym c.leaf_numbered-in-loop-part.ensures ∙ c.in-Some.is in
    sym (find-append_found (λ (m : Leaf). m.num == c.args.num) (leaves (tree c.part-item.result)) _ c.in-Some.leaf found)
    ∙ sym (ap (find (λ (m : Leaf). m.num == c.args.num)) next) ∙ c.loop-part.invariant

pub loop-part-preserved : goal.loop-part-preserved
loop-part-preserved t c =
    let next = next_leaves c.deref-part-items.result.now c.loop-part.part-index c.part-item.result c.loop-part-test.true c.part-item.is in
    let none = sym c.leaf_numbered-in-loop-part.ensures ∙ c.in_default.is in
    sym (find-append_none (λ (m : Leaf). m.num == c.args.num) (leaves (tree c.part-item.result)) _ none)
    ∙ sym (ap (find (λ (m : Leaf). m.num == c.args.num)) next) ∙ c.loop-part.invariant

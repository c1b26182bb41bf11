use Rattle.std.proofs.Common.{◌++◌, ◌+◌, drop, sym, ap, ◌∙◌, append_assoc}
use Rattle.std.proofs.lemmas.List.{append-nil}
use Rattle.tetri_strl.specs.Tree.{numbers, numbers_of, tree, trees}
use Rattle.tetri_strl.proofs.TreeLemmas.{trees_more, trees_end}
use Rattle.tetri_strl.proofs.trimming.+add_numbers.Goals as goal

pub loop-part-preserved : goal.loop-part-preserved
loop-part-preserved t c =
    let items = c.deref-part-items.result.now in
    let i = c.loop-part.part-index in
    let e = c.part-item.result in
    let rest = numbers_of (trees (drop (i + 1) items)) in
    let so_far = c.loop-part.out.items in
    ap (λ xs. xs ++ rest) c.in_ok-add_numbers-in-Max.ensures ∙ append_assoc so_far (numbers (tree e)) rest
    ∙ sym (ap (λ ts. so_far ++ numbers_of ts) (trees_more items i e c.loop-part-test.true c.part-item.is)) ∙ c.loop-part.invariant

pub returns-after-loop-part : goal.returns-after-loop-part
returns-after-loop-part t c =
    let so_far = c.loop-part.out.items in
    let end = trees_end c.deref-part-items.result.now c.loop-part.part-index c.loop-part-test.false in
    sym (append-nil so_far) ∙ sym (ap (λ ts. so_far ++ numbers_of ts) end) ∙ c.loop-part.invariant

use Rattle.std.proofs.Common.{List, [], ◌∷◌, ◌++◌, map, ap, sym, ◌∙◌, arith}
use Rattle.std.specs.List.{range_with_len}
use Rattle.std.proofs.lemmas.List.FromFn.{map-range_with_len_more}
use Rattle.tetri_cluster.specs.declared.cluster.NodeText.{NodeText}
use Rattle.tetri_make.specs.Generated.{node_at}
use Rattle.tetri_make.proofs.nodes.cluster.Goals as goal

pub loop-number-preserved : goal.loop-number-preserved
loop-number-preserved c =
    let number = c.loop-number.number in
    c.in_ok-push.ensures.items ∙ ap (λ (ns : List NodeText). ns ++ c.in_ok-node.field-0 ∷ []) c.loop-number.invariant
    ∙ ap (λ (n : NodeText). map node_at (range_with_len 0 number) ++ n ∷ []) c.in_ok-node.ensures
    ∙ sym (map-range_with_len_more node_at 0 number number (omega arith))

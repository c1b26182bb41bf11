use Rattle.std.proofs.Common.{◌≡◌, ◌∙◌, ◌++◌, ◌∷◌, [], subst, ap, sym, arith, zero-add}
use Rattle.std.specs.List.{range_with_len}
use Rattle.tetri_parse.specs.SetText.{IsNodeSet}
use Rattle.tetri_parse.proofs.NodeSets.{range-more, all_is_node_set}
use Rattle.tetri_parse.proofs.nodes.all_nodes.Goals as goal

pub loop-node-preserved : goal.loop-node-preserved
loop-node-preserved c =
    c.in_ok-push.ensures.ok
    ∙ ap (λ ns. ns ++ c.loop-node.node ∷ []) c.loop-node.invariant
    ∙ sym (range-more 0 c.loop-node.node ∙ ap (λ n. range_with_len 0 c.loop-node.node ++ n ∷ []) (zero-add c.loop-node.node))

pub returns-clause-good : goal.returns-clause-good
returns-clause-good c =
    let last : c.loop-node.node ≡ c.args.count = omega arith in
    subst (IsNodeSet c.args.count) (ap (range_with_len 0) (sym last) ∙ sym c.loop-node.invariant) (all_is_node_set c.args.count)

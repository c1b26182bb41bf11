use Rattle.std.proofs.Common.{◌++◌, ◌∙◌, List, ℕ, sym, ap, append_assoc, string_bytes}
use Rattle.std.specs.Prelude.{flat_map}
use Rattle.std.specs.List.{range_with_len}
use Rattle.tetri_base.proofs.ListLaws.{flat_map-next}
use Rattle.tetri_workload.specs.Text.{node_text}
use Rattle.tetri_workload.proofs.text.write_nodes.Goals as goal

pub loop-number-preserved : goal.loop-number-preserved
loop-number-preserved c =
    let l = c.loop-number in
    let before : List ℕ = string_bytes c.args.text.now in
    c.in_ok-write_node.ensures ∙ ap (λ xs. xs ++ node_text l.number) l.invariant ∙ append_assoc before (flat_map node_text (range_with_len 0 l.number)) (node_text l.number)
    ∙ ap (λ xs. before ++ xs) (sym (flat_map-next node_text l.number))

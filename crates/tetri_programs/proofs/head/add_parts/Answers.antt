use Rattle.std.proofs.Common.{ℕ, List, ◌++◌, ◌∙◌, append_assoc, ap, string_bytes, sym}
use Rattle.std.specs.Prelude.{flat_map}
use Rattle.std.specs.List.{range_with_len}
use Rattle.tetri_base.proofs.ListLaws.{flat_map-next}
use Rattle.tetri_space.specs.Partitions.{part_at, parts_of}
use Rattle.tetri_programs.specs.Head.{node_names, part_text}
use Rattle.tetri_programs.proofs.head.add_parts.Goals as goal

pub loop-part-preserved : goal.loop-part-preserved
loop-part-preserved c =
    let l = c.loop-part in
    let start = string_bytes c.args.out.now in
    let text = λ (k : ℕ) (nodes : List ℕ). part_text c.args.mark.now k (node_names c.args.cluster.now nodes) in
    let text_at = λ (k : ℕ). text k (part_at (parts_of c.args.parts.now).groups k) in
    c.in_ok-add_part.ensures ∙ ap (λ (nodes : List ℕ). string_bytes l.out ++ text l.part nodes) (c.as_slice.ensures ∙ c.nodes_of.ensures)
    ∙ ap (λ (out : List ℕ). out ++ text_at l.part) l.invariant
    ∙ append_assoc start (flat_map text_at (range_with_len 0 l.part)) (text_at l.part)
    ∙ ap (λ (parts : List ℕ). start ++ parts) (sym (flat_map-next text_at l.part))

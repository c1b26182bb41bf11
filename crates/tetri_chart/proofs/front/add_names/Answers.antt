use Rattle.std.proofs.Common.{◌++◌, ◌∙◌, List, ℕ, sym, ap, append_assoc, string_bytes}
use Rattle.std.specs.Prelude.{flat_map}
use Rattle.std.specs.List.{range_with_len}
use Rattle.tetri_base.proofs.ListLaws.{flat_map-next}
use Rattle.tetri_trace.specs.Scenario.{scenario}
use Rattle.tetri_chart.specs.Ends.{name_by}
use Rattle.tetri_chart.proofs.front.add_names.Goals as goal

pub loop-node-preserved : goal.loop-node-preserved
loop-node-preserved c =
    let f : ℕ → List ℕ = name_by (scenario c.args.trace.now) c.args.frame.now c.args.stride in
    let l = c.loop-node in
    let before : List ℕ = string_bytes c.args.out.now in
    c.in_ok-add_name_at.ensures ∙ ap (λ xs. xs ++ f l.node) l.invariant ∙ append_assoc before (flat_map f (range_with_len 0 l.node)) (f l.node)
    ∙ ap (λ xs. before ++ xs) (sym (flat_map-next f l.node))

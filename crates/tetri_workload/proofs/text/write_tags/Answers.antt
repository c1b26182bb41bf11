use Rattle.std.proofs.Common.{◌++◌, ◌∙◌, List, ℕ, sym, ap, append_assoc, string_bytes}
use Rattle.std.specs.Prelude.{flat_map}
use Rattle.std.specs.List.{range_with_len}
use Rattle.tetri_base.proofs.ListLaws.{flat_map-next}
use Rattle.tetri_workload.specs.Text.{tag_text}
use Rattle.tetri_workload.proofs.text.write_tags.Goals as goal

pub loop-place-preserved : goal.loop-place-preserved
loop-place-preserved c =
    let l = c.loop-place in
    let before : List ℕ = string_bytes c.args.text.now in
    let step : ℕ → List ℕ = tag_text c.args.tags.now in
    c.in_ok-write_tag.ensures ∙ ap (λ xs. xs ++ step l.place) l.invariant ∙ append_assoc before (flat_map step (range_with_len 0 l.place)) (step l.place)
    ∙ ap (λ xs. before ++ xs) (sym (flat_map-next step l.place))

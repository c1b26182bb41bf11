use Rattle.std.proofs.Common.{◌++◌, ◌∙◌, List, ℕ, sym, ap, append_assoc, string_bytes}
use Rattle.std.specs.Prelude.{flat_map}
use Rattle.std.specs.List.{range_with_len}
use Rattle.tetri_base.proofs.ListLaws.{flat_map-next}
use Rattle.tetri_chart.specs.Colours.{tag_key}
use Rattle.tetri_chart.proofs.colours.add_tag_keys.Goals as goal

pub loop-place-preserved : goal.loop-place-preserved
loop-place-preserved c =
    let f : ℕ → List ℕ = tag_key c.args.frame.now c.args.tags.now in
    let l = c.loop-place in
    let before : List ℕ = string_bytes c.args.out.now in
    c.in_ok-add_tag_key.ensures ∙ ap (λ xs. xs ++ f l.place) l.invariant ∙ append_assoc before (flat_map f (range_with_len 0 l.place)) (f l.place)
    ∙ ap (λ xs. before ++ xs) (sym (flat_map-next f l.place))

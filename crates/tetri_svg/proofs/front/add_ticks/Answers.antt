use Rattle.std.proofs.Common.{◌++◌, ◌∙◌, List, ℕ, sym, ap, append_assoc, string_bytes}
use Rattle.std.specs.Prelude.{flat_map}
use Rattle.std.specs.List.{range_with_len}
use Rattle.tetri_svg.specs.Front.{tick_at}
use Rattle.tetri_base.proofs.ListLaws.{flat_map-next}
use Rattle.tetri_svg.proofs.front.add_ticks.Goals as goal

pub loop-slot-preserved : goal.loop-slot-preserved
loop-slot-preserved c =
    let f : ℕ → List ℕ = tick_at c.args.frame.now c.args.clock c.args.stride in
    let l = c.loop-slot in
    let before : List ℕ = string_bytes c.args.out.now in
    c.in_ok-add_tick_at.ensures ∙ ap (λ xs. xs ++ f l.slot) l.invariant ∙ append_assoc before (flat_map f (range_with_len 0 l.slot)) (f l.slot)
    ∙ ap (λ xs. before ++ xs) (sym (flat_map-next f l.slot))

use Rattle.std.proofs.Common.{◌+◌, ◌-◌, ◌^◌, ◌≡◌, min, ap, arith, ◌∙◌}
use Rattle.tetri_space.proofs.SlotLemmas.{mask_value, shifted_order}
use Rattle.tetri_space.proofs.masks.slots_of.Goals as goal

pub overflow_sub-result : goal.overflow_sub-result
overflow_sub-result c = shifted_order _ _ (omega (arith, c.min-end.ensures, c.requires.live, c.requires.window)) (omega (arith, c.min-end.ensures))

pub returns : goal.returns
returns c =
    let first = c.args.leaf.now.start - c.args.now in
    let end : c.min-end.result ≡ min 64 (first + c.args.leaf.now.dur) = omega (arith, c.min-end.ensures) in
    mask_value first c.min-end.result (omega (arith, c.min-end.ensures, c.requires.live, c.requires.window)) (omega (arith, c.min-end.ensures))
    ∙ ap (λ e. 2 ^ e - 2 ^ first) end

use Rattle.std.proofs.Common.{◌≡◌, ◌∙◌, ◌+◌, ◌∷◌, ◌++◌, [], ap, sym, arith}
use Prim.Native.Nat.{suc}
use Rattle.std.specs.List.{range_with_len}
use Rattle.tetri_space.proofs.InstanceLaws.{range_next}
use Rattle.tetri_split.proofs.labels.own_labels.Goals as goal

pub loop-node-preserved : goal.loop-node-preserved
loop-node-preserved c =
    let n = c.loop-node.node in
    let next : suc n ≡ n + 1 = omega arith in
    c.in_ok-push.ensures.items ∙ ap (λ ns. ns ++ n ∷ []) c.loop-node.invariant ∙ sym (range_next n) ∙ ap (range_with_len 0) next

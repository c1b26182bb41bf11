use Rattle.std.proofs.Common.{◌≡◌, drop, get_or}
use Rattle.std.specs.List.{list_any}
use Rattle.tetri_space.specs.Slots.{meets}
use Rattle.tetri_space.proofs.masks.holds_some.Given as goal

abbrev pub invariant-loop-node : goal.invariant-loop-node
invariant-loop-node l = list_any (λ n. meets (get_or l.masks n 0) l.slots) (drop l.node-index l.nodes) ≡ list_any (λ n. meets (get_or l.masks n 0) l.slots) l.nodes

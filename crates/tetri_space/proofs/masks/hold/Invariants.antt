use Rattle.std.proofs.Common.{◌≡◌, drop}
use Rattle.tetri_space.specs.Slots.{marked}
use Rattle.tetri_space.proofs.masks.hold.Given as goal

abbrev pub invariant-loop-node : goal.invariant-loop-node
invariant-loop-node l = marked l.masks l.slots (drop l.node-index l.nodes) ≡ marked l.fn.masks l.slots l.nodes

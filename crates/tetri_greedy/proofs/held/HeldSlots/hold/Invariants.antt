use Rattle.std.proofs.Common.{◌≡◌, drop, length}
use Rattle.tetri_space.specs.Slots.{marked}
use Rattle.tetri_greedy.proofs.held.HeldSlots.hold.Given as goal

abbrev pub invariant-loop-node : goal.invariant-loop-node
invariant-loop-node l = record {
  so_far : marked l.self l.slots (drop l.node-index l.nodes) ≡ marked l.fn.self l.slots l.nodes;
  as_many : length l.self ≡ length l.fn.self;
}

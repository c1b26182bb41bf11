use Rattle.std.proofs.Common.{◌≡◌, drop, length}
use Rattle.tetri_assign.specs.steps.Taking.{hold}
use Rattle.tetri_assign.proofs.backs.hold.Given as goal

abbrev pub invariant-loop-node : goal.invariant-loop-node
invariant-loop-node l = record {
  as_many : length l.back.items ≡ length l.fn.back.items;
  so_far : hold l.back.items l.slot (drop l.node-index l.nodes) ≡ hold l.fn.back.items l.slot l.nodes;
}

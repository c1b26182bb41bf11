use Rattle.std.proofs.Common.{◌≡◌, ◌+◌, ◌≤◌, drop}
use Rattle.tetri_base.specs.Lists.{count}
use Rattle.tetri_compile.specs.Sizes.{has_slot}
use Rattle.tetri_compile.proofs.sizes.held_in.Given as goal

abbrev pub invariant-loop-slot : goal.invariant-loop-slot
invariant-loop-slot l = record {
  so_far : l.held + count (λ s. has_slot s l.place) (drop l.slot-index l.slots) ≡ count (λ s. has_slot s l.place) l.slots;
  few : l.held ≤ l.slot-index;
}

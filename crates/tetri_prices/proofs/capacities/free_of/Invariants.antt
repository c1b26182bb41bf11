use Rattle.std.proofs.Common.{◌≡◌, ℕ, ◌+◌, ◌<◌, get_or, length}
use Rattle.tetri_space.specs.Partitions.{available, partitions}
use Rattle.tetri_space.specs.Space.{space}
use Rattle.tetri_prices.proofs.capacities.free_of.Given as goal

abbrev pub invariant-loop-place : goal.invariant-loop-place
invariant-loop-place l = record {
  long : length l.free.items ≡ l.place;
  free : (i : ℕ) → i < l.place → get_or l.free.items i 0 ≡ available (space l.fn.inst) (partitions (space l.fn.inst)) l.fn.part (l.fn.inst.now + i);
}

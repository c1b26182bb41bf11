use Rattle.std.proofs.Common.{◌≡◌, ℕ, ◌||◌, false, length, drop, map, slice_index_or}
use Rattle.tetri_base.specs.Lists.{has}
use Rattle.tetri_space.specs.Partitions.{sets_in}
use Rattle.tetri_space.specs.Space.{bid}
use Rattle.tetri_space.proofs.finding.used_sets.Given as goal

abbrev pub invariant-loop-offer : goal.invariant-loop-offer
invariant-loop-offer l = record {
  count : length l.used.items ≡ l.count;
  so_far : (k : ℕ) → (slice_index_or l.used.items k false || has (sets_in (drop l.offer-index (map bid l.offers))) k) ≡ has (sets_in (map bid l.offers)) k;
}

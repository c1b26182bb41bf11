use Rattle.std.proofs.Common.{◌≡◌, ℕ, ◌+◌, ◌<◌, ◌==◌, ◌&&◌, ◌||◌, drop, map, slice_index_or}
use Rattle.std.specs.List.{list_any}
use Rattle.tetri_space.specs.Partitions.{parts_of}
use Rattle.tetri_space.specs.Space.{bid}
use Rattle.tetri_compile.specs.Sizes.{covers, has_slot, leaves_in}
use Rattle.tetri_compile.proofs.sizes.hold_leaves.Given as goal

abbrev pub invariant-loop-offer : goal.invariant-loop-offer
invariant-loop-offer l =
    (k i : ℕ) → i < 64 → (has_slot (slice_index_or l.named k 0) i || list_any (λ m. covers m (l.now + i) && m.set == k) (leaves_in (drop l.offer-index (map bid l.offer-items))))
    ≡ (has_slot (slice_index_or l.fn.named k 0) i || list_any (λ m. covers m (l.now + i) && m.set == k) (leaves_in (parts_of l.parts).bids))

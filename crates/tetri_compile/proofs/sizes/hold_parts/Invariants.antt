use Rattle.std.proofs.Common.{◌≡◌, ℕ, ◌<◌, ◌&&◌, ◌||◌, length, slice_index_or}
use Rattle.std.specs.List.{list_any, range_with_len}
use Rattle.tetri_base.specs.Lists.{has}
use Rattle.tetri_space.specs.Partitions.{parts_found, parts_of}
use Rattle.tetri_compile.specs.Sizes.{has_slot}
use Rattle.tetri_compile.proofs.sizes.hold_parts.Given as goal

abbrev pub invariant-loop-set : goal.invariant-loop-set
invariant-loop-set l =
    (p i : ℕ) → p < length l.fn.used → i < 64 → has_slot (slice_index_or l.used p 0) i ≡ (has_slot (slice_index_or l.fn.used p 0) i
    || list_any (λ k. has_slot (slice_index_or l.named k 0) i && has (parts_found (parts_of l.parts) k) p) (range_with_len 0 l.set))

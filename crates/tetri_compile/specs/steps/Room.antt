-- From which slots the nodes of each partition are idle.
use Rattle.std.specs.Prelude.{◌≡◌, ℕ, ◌<◌, nat_le, length}
use Rattle.std.specs.List.Sorted.{IsNonDecreasing}
use Rattle.tetri_base.specs.Lists.{count, list_at}
use Rattle.tetri_space.specs.Free.{is_idle}
use Rattle.tetri_space.specs.Partitions.{part_at, partitions}
use Rattle.tetri_space.specs.Space.{Space}
use Rattle.tetri_compile.specs.declared.rooms.Rooms.{Rooms}

-- how many nodes of a partition are idle in a slot, whether closed or not
abbrev pub idle_count : Space → ℕ → ℕ → ℕ
idle_count s p t = count (λ n. is_idle s n t) (part_at (partitions s) p)

-- the slots of each partition ascend, and those up to a slot are as many as its nodes that are idle then
pub record AreRooms (s : Space) (r : Rooms) : Type 0 where
  pub many : length r.since.items ≡ length (partitions s)
  pub ascending : (p : ℕ) → p < length (partitions s) → IsNonDecreasing (list_at r.since.items p)
  pub idle : (p t : ℕ) → p < length (partitions s) → count (λ b. nat_le b t) (list_at r.since.items p) ≡ idle_count s p t

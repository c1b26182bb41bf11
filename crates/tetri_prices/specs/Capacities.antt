-- How many nodes of each partition are free, slot by slot.
use Rattle.std.specs.Prelude.{◌≡◌, ℕ, ◌+◌, ◌<◌, List, length, slice_index}
use Rattle.tetri_base.specs.Lists.{list_at}
use Rattle.tetri_space.specs.Partitions.{available, partitions}
use Rattle.tetri_space.specs.Space.{Space}
use Rattle.tetri_prices.specs.declared.capacities.Capacities.{Capacities}

-- these are the free nodes of a partition in each slot of the window
pub record AreFree (s : Space) (p : ℕ) (ns : List ℕ) : Type 0 where
  pub long : length ns ≡ s.window
  pub free : (i : ℕ) → i < s.window → slice_index ns i ≡ available s (partitions s) p (s.now + i)

-- these are the capacities of the instance's partitions
pub record AreCapacitiesOf (s : Space) (c : Capacities) : Type 0 where
  pub count : length c.free.items ≡ length (partitions s)
  pub each : (p : ℕ) → p < length (partitions s) → AreFree s p (list_at c.free.items p)

-- The places of a leaf.
use Rattle.std.specs.Prelude.{ℕ, ◌*◌, ◌-◌, ◌/◌, nat_lt, if◌then◌else◌, List, map}
use Rattle.tetri_base.specs.Lists.{sum_of}
use Rattle.tetri_strl.specs.declared.expr.Leaf.{Leaf}
use Rattle.tetri_space.specs.Partitions.{partitions, parts_in}
use Rattle.tetri_space.specs.Space.{Space}
use Rattle.tetri_prices.specs.declared.filling.Place.{Place}
use Rattle.tetri_prices.specs.Filling.{fill, pick}
use Rattle.tetri_prices.specs.Priced.{capacity, listed, node_cost}

module _ (s : Space) (rows : List (List ℕ)) where
  abbrev pub place_for : Leaf → ℕ → Place
  place_for l p = record {
    cost = node_cost s (partitions s) (listed s.now rows) l p;
    capacity = capacity s (partitions s) (listed s.now rows) l p;
  }

  abbrev pub places_for : Leaf → List Place
  places_for l = map (place_for l) (parts_in s (partitions s) l.set)

abbrev pub Cost : Place → ℕ
Cost p = p.cost

abbrev pub Capacity : Place → ℕ
Capacity p = p.capacity

-- what a leaf over these places from the cheapest on gains whose worth counts m times
abbrev pub sorted_gain : Leaf → List Place → ℕ → ℕ
sorted_gain l ps m =
    if l.linear then pick Cost Capacity (m * (l.v / l.k)) l.k ps
    else if nat_lt (sum_of Capacity ps) l.k then 0
    else m * l.v - fill Cost Capacity l.k ps

-- and what it costs at least where it is worth more than 0
abbrev pub sorted_cost : Leaf → List Place → ℕ
sorted_cost l ps = fill Cost Capacity (if l.linear then 1 else l.k) ps

-- The Lagrangian bound of prices. A price is for one node of a partition in a slot, in parts of a unit.
use Rattle.std.specs.Prelude.{◌≡◌, ℕ, ◌+◌, ◌-◌, ◌*◌, ◌/◌, ◌≤◌, if◌then◌else◌, List, [], All, length, slice_index, slice_index_or}
use Rattle.std.specs.List.{range_with_len}
use Rattle.tetri_base.specs.Lists.{sum_of}
use Rattle.tetri_strl.specs.declared.expr.Leaf.{Leaf}
use Rattle.tetri_strl.specs.declared.grants.Grant.{Grant}
use Rattle.tetri_space.specs.Lawful.{IsLawful}
use Rattle.tetri_space.specs.Partitions.{available, live_bids, partitions, parts_in}
use Rattle.tetri_space.specs.Space.{Bid, Space}
use Rattle.tetri_space.specs.Total.{total_in, tops_in}
use Rattle.tetri_compile.specs.Sizes.{covers}
use Rattle.tetri_compile.specs.Usable.{usable_by}
use Rattle.tetri_prices.specs.Gain.{gain, leaf_cost, leaf_gain}

-- the slots of the window
abbrev pub window_slots : Space → List ℕ
window_slots s = range_with_len s.now s.window

-- the numbers of partitions
abbrev pub part_numbers : List (List ℕ) → List ℕ
part_numbers parts = range_with_len 0 (length parts)

-- `price` gives the price of a partition in a slot
module _ (s : Space) (parts : List (List ℕ)) (price : ℕ → ℕ → ℕ) where
  -- what a node of a partition costs a leaf: its prices in the window's slots that the leaf covers
  abbrev pub node_cost : Leaf → ℕ → ℕ
  node_cost l p = sum_of (λ t. if covers l t then price p t else 0) (window_slots s)

  -- how many nodes of a partition a leaf may get
  abbrev pub capacity : Leaf → ℕ → ℕ
  capacity l p = usable_by s parts p l

  -- what a leaf gains whose worth counts m times
  abbrev pub gain_for : Leaf → ℕ → ℕ
  gain_for l m = leaf_gain (node_cost l) (capacity l) (parts_in s parts l.set) l m

  -- what a leaf costs at least where it is worth more than 0
  abbrev pub cost_for : Leaf → ℕ
  cost_for l = leaf_cost (node_cost l) (capacity l) (parts_in s parts l.set) l

  -- what a bid gains, where its worth counts `unit` times
  abbrev pub bid_gain : ℕ → Bid → ℕ
  bid_gain unit b = gain cost_for gain_for b.expr unit

  -- what all free nodes cost in all slots of the window
  abbrev pub supply_cost : ℕ
  supply_cost =
      sum_of (λ p. sum_of (λ t. price p t * available s parts p t) (window_slots s))
      (part_numbers parts)

-- the Lagrangian bound of an instance
abbrev pub priced_bound : Space → ℕ → (ℕ → ℕ → ℕ) → ℕ
priced_bound s unit price =
    (sum_of (bid_gain s (partitions s) price unit) (live_bids s)
    + supply_cost s (partitions s) price) / unit

-- prices by partition and by place in the window
abbrev pub listed : ℕ → List (List ℕ) → ℕ → ℕ → ℕ
listed now rows p t = slice_index (slice_index_or rows p []) (t - now)

-- each partition has a price for each slot of the window
pub record ArePricesOf (s : Space) (rows : List (List ℕ)) : Type 0 where
  pub count : length rows ≡ length (partitions s)
  pub long : All (λ r. length r ≡ s.window) rows

-- no lawful allotment is worth more than the bound of any prices
abbrev pub PricesBound : Space → Type 0
PricesBound s =
    (unit : ℕ) (price : ℕ → ℕ → ℕ) → 1 ≤ unit → (a : List Grant) → IsLawful s a
    → total_in s a ≤ priced_bound s unit price

-- prices of 0 give a bound that is at most the sum of the tops
abbrev pub ZeroPricesBound : Space → Type 0
ZeroPricesBound s = (unit : ℕ) → priced_bound s unit (λ p t. 0) ≤ tops_in s

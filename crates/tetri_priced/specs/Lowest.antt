-- Prices above 0, as fractions in lowest terms.
use Rattle.std.specs.Prelude.{ℕ, ◌/◌, ◌==◌, if◌then◌else◌, List, [], ◌∷◌, flat_map, slice_index}
use Rattle.tetri_algebra.specs.Gcd.{gcd_of}
use Rattle.tetri_prices.specs.Priced.{listed, part_numbers, window_slots}
use Rattle.tetri_space.specs.Partitions.{part_at, partitions}
use Rattle.tetri_space.specs.Space.{Space}
use Rattle.tetri_priced.specs.declared.lowest.NodePrice.{NodePrice}

-- the price of one node of the partition with this least node for this slot: so many parts of a unit, in lowest terms
abbrev pub in_lowest_terms : ℕ → ℕ → ℕ → ℕ → NodePrice
in_lowest_terms node slot parts unit =
    record { node = node; slot = slot; price = parts / gcd_of parts unit; unit = unit / gcd_of parts unit }

-- it, where it is above 0
abbrev pub above_zero : ℕ → ℕ → ℕ → ℕ → List NodePrice
above_zero node unit slot parts = if parts == 0 then [] else in_lowest_terms node slot parts unit ∷ []

-- the least node of the partition of this number
abbrev pub least_node : Space → ℕ → ℕ
least_node s p = slice_index (part_at (partitions s) p) 0

module _ (s : Space) (unit : ℕ) (rows : List (List ℕ)) where
  -- the prices of a partition that are above 0, by slot
  abbrev pub part_prices : ℕ → List NodePrice
  part_prices p = flat_map (λ t. above_zero (least_node s p) unit t (listed s.now rows p t)) (window_slots s)

  -- the prices of all partitions that are above 0, by partition and then by slot
  abbrev pub prices_above_zero : List NodePrice
  prices_above_zero = flat_map part_prices (part_numbers (partitions s))

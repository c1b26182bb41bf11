-- Prices with their prefix sums.
use Rattle.std.specs.Prelude.{◌≡◌, ℕ, ◌+◌, ◌*◌, ◌^◌, ◌<◌, ◌≤◌, List, length, map, slice_index}
use Rattle.std.specs.List.{range_with_len}
use Rattle.tetri_base.specs.Lists.{list_at, sum_of}
use Rattle.tetri_space.specs.Partitions.{partitions}
use Rattle.tetri_space.specs.Space.{Space}
use Rattle.tetri_prices.specs.Priced.{ArePricesOf}
use Rattle.tetri_prices.specs.declared.prices.Prices.{Prices}

-- the prices by partition and by place in the window
abbrev pub rows_of : Prices → List (List ℕ)
rows_of p = map (λ v. v.items) p.rows.items

-- the sum of the first so many prices
pub record IsSum (prices : List ℕ) (count n : ℕ) : Type 0 where
  pub sum : n ≡ sum_of (slice_index prices) (range_with_len 0 count)
  pub small : n ≤ count * 2 ^ 64

-- the sums of the first prices: of none, of one, and so on up to all
pub record AreSums (prices sums : List ℕ) : Type 0 where
  pub long : length sums ≡ length prices + 1
  pub each : (i : ℕ) → i ≤ length prices → IsSum prices i (slice_index sums i)

-- these are prices of the instance's partitions
pub record ArePrices (s : Space) (p : Prices) : Type 0 where
  pub rows : ArePricesOf s (rows_of p)
  pub count : length p.sums.items ≡ length (partitions s)
  pub each : (q : ℕ) → q < length (partitions s) → AreSums (list_at p.rows.items q) (list_at p.sums.items q)

-- Which prices a pricer may give.
use Rattle.std.specs.Prelude.{◌≤◌, ◌^◌}
use Rattle.tetri_prices.specs.Prices.{ArePrices}
use Rattle.tetri_space.specs.Space.{Space}
use Rattle.tetri_priced.specs.declared.pricer.Quote.{Quote}

-- these are prices of the instance's partitions, in parts of a unit within its limits
pub record IsQuoteOf (s : Space) (q : Quote) : Type 0 where
  pub prices : ArePrices s q.prices
  pub some : 1 ≤ q.unit
  pub few : q.unit ≤ 2 ^ 20

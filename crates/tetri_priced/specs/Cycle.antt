-- What prices make of the bound of a cycle.
use Rattle.std.specs.Prelude.{◌≡◌, ◌≤◌, ◌^◌, ℕ, List, [], min, Option, Some, None, IfSome}
use Rattle.tetri_claims.specs.Good.{BoundsEveryLawful}
use Rattle.tetri_prices.specs.Priced.{ArePricesOf, listed, priced_bound}
use Rattle.tetri_prices.specs.Prices.{rows_of}
use Rattle.tetri_space.specs.Space.{Space}
use Rattle.tetri_priced.specs.Lowest.{prices_above_zero}
use Rattle.tetri_priced.specs.declared.cycle.PricedCycle.{PricedCycle}
use Rattle.tetri_priced.specs.declared.cycle.Printed.{Printed}
use Rattle.tetri_priced.specs.declared.lowest.NodePrice.{NodePrice}
use Rattle.tetri_priced.specs.declared.pricer.Quote.{Quote}

-- prices by partition and by place in the window, in parts of a unit
pub record Given : Type 0 where
  pub unit : ℕ
  pub rows : List (List ℕ)

abbrev pub given : Quote → Given
given q = record { unit = q.unit; rows = rows_of q.prices }

-- they are prices of the instance's partitions, and the unit is within its limits
pub record MayBeGiven (s : Space) (g : Given) : Type 0 where
  pub rows : ArePricesOf s g.rows
  pub some : 1 ≤ g.unit
  pub few : g.unit ≤ 2 ^ 20

-- the lesser of the printed bound and that of the prices, where some are given
abbrev pub lesser_bound : Space → ℕ → Option Given → ℕ
lesser_bound s bound None = bound
lesser_bound s bound (Some g) = min bound (priced_bound s g.unit (listed s.now g.rows))

-- the given prices that are above 0
abbrev pub told_prices : Space → Option Given → List NodePrice
told_prices s None = []
told_prices s (Some g) = prices_above_zero s g.unit g.rows

-- this is what these prices make of a cycle with this instance
pub record IsPricedBy (s : Space) (g : Option Given) (p : Printed) (c : PricedCycle) : Type 0 where
  pub number : c.number ≡ p.number
  pub value : c.value ≡ p.value
  pub bound : c.bound ≡ p.bound
  pub priced : c.priced ≡ lesser_bound s p.bound g
  pub prices : c.prices.items ≡ told_prices s g

-- This is what some prices, or none, make of a cycle with this instance, and these were given; where the printed bound holds, no lawful
-- allotment is worth more than the lesser one.
pub record IsPriced (answers : Option Given → Type 0) (s : Space) (p : Printed) (c : PricedCycle) : Type 0 where
  pub given : Option Given
  pub gave : answers given
  pub may : IfSome given (MayBeGiven s)
  pub is : IsPricedBy s given p c
  pub bounds : BoundsEveryLawful s p.bound → BoundsEveryLawful s c.priced

use Rattle.std.proofs.Common.{◌≡◌, ◌<◌, ℕ, length}
use Rattle.tetri_base.specs.Lists.{list_at}
use Rattle.tetri_prices.specs.Prices.{AreSums}
use Rattle.tetri_prices.proofs.prices.Prices.of.Given as goal

abbrev pub invariant-loop-row : goal.invariant-loop-row
invariant-loop-row l = record {
  count : length l.sums.items ≡ l.row-index;
  each : (q : ℕ) → q < l.row-index → AreSums (list_at l.row-items q) (list_at l.sums.items q);
}

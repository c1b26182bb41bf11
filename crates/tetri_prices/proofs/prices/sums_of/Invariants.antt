use Rattle.std.proofs.Common.{◌≡◌, ℕ, ◌+◌, ◌<◌, get_or, length}
use Rattle.tetri_prices.specs.Prices.{IsSum}
use Rattle.tetri_prices.proofs.prices.sums_of.Given as goal

abbrev pub invariant-loop-price : goal.invariant-loop-price
invariant-loop-price l = record {
  long : length l.sums.items ≡ l.price-index + 1;
  each : (i : ℕ) → i < l.price-index + 1 → IsSum l.fn.prices i (get_or l.sums.items i 0);
  last : IsSum l.fn.prices l.price-index l.sum;
}

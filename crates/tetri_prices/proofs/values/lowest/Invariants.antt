use Rattle.std.proofs.Common.{◌≡◌, ◌+◌, drop}
use Rattle.tetri_strl.specs.Worth.{added_of, least_from}
use Rattle.tetri_prices.specs.steps.Values.{costs, gains, tops}
use Rattle.tetri_prices.proofs.NetLemmas.{gross}
use Rattle.tetri_prices.proofs.values.lowest.Given as goal

abbrev pub invariant-loop-value : goal.invariant-loop-value
invariant-loop-value l = record {
  top : least_from l.top (tops (drop l.value-index l.values)) ≡ least_from 18446744073709551615 (tops l.fn.values);
  gross : least_from l.gross (gross (gains (drop l.value-index l.values)) (costs (drop l.value-index l.values)))
      ≡ least_from 340282366920938463463374607431768211455 (gross (gains l.fn.values) (costs l.fn.values));
  cost : l.cost + added_of (costs (drop l.value-index l.values)) ≡ added_of (costs l.fn.values);
}

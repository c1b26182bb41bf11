use Rattle.std.proofs.Common.{◌≡◌, ◌+◌, drop}
use Rattle.tetri_strl.specs.Worth.{added_of, least_from}
use Rattle.tetri_prices.specs.steps.Values.{costs, gains, tops}
use Rattle.tetri_prices.proofs.values.added.Given as goal

abbrev pub invariant-loop-value : goal.invariant-loop-value
invariant-loop-value l = record {
  top : l.joined.top + added_of (tops (drop l.value-index l.values)) ≡ added_of (tops l.fn.values);
  gain : l.joined.gain + added_of (gains (drop l.value-index l.values)) ≡ added_of (gains l.fn.values);
  cost : least_from l.joined.cost (costs (drop l.value-index l.values)) ≡ least_from 340282366920938463463374607431768211455 (costs l.fn.values);
}

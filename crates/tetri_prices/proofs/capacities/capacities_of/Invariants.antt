use Rattle.std.proofs.Common.{◌≡◌, ◌<◌, ℕ, length}
use Rattle.tetri_base.specs.Lists.{list_at}
use Rattle.tetri_space.specs.Space.{space}
use Rattle.tetri_prices.specs.Capacities.{AreFree}
use Rattle.tetri_prices.proofs.capacities.capacities_of.Given as goal

abbrev pub invariant-loop-part : goal.invariant-loop-part
invariant-loop-part l = record {
  count : length l.free.items ≡ l.part;
  each : (p : ℕ) → p < l.part → AreFree (space l.fn.inst) p (list_at l.free.items p);
}

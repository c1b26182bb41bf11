use Rattle.std.proofs.Common.{◌≡◌, ◌+◌, ◌*◌, ◌≤◌, ◌^◌, drop, length}
use Rattle.tetri_priced.specs.Text.{bound_in, optimal_in, priced_in, value_in}
use Rattle.tetri_priced.proofs.telling.totals_of.Given as goal

abbrev pub invariant-loop-cycle : goal.invariant-loop-cycle
invariant-loop-cycle l = record {
  cycles : l.totals.cycles ≡ length l.cycles;
  optimal : l.totals.optimal + optimal_in (drop l.cycle-index l.cycles) ≡ optimal_in l.cycles;
  value : l.totals.value + value_in (drop l.cycle-index l.cycles) ≡ value_in l.cycles;
  bound : l.totals.bound + bound_in (drop l.cycle-index l.cycles) ≡ bound_in l.cycles;
  priced : l.totals.priced + priced_in (drop l.cycle-index l.cycles) ≡ priced_in l.cycles;
  few : l.totals.optimal ≤ l.cycle-index;
  small_value : l.totals.value ≤ l.cycle-index * 2 ^ 64;
  small_bound : l.totals.bound ≤ l.cycle-index * 2 ^ 64;
  small_priced : l.totals.priced ≤ l.cycle-index * 2 ^ 64;
}

use Rattle.std.proofs.Common.{◌≡◌, ◌+◌, ◌-◌, ◌*◌, ◌≤◌, ◌^◌, drop}
use Rattle.tetri_base.specs.Lists.{sum_of}
use Rattle.tetri_priced.specs.Text.{priced_in}
use Rattle.tetri_priced.specs.declared.cycle.PricedCycle.{PricedCycle}
use Rattle.tetri_figures.proofs.bounds.PricedSums.of.Given as goal

abbrev pub invariant-loop-cycle : goal.invariant-loop-cycle
invariant-loop-cycle l = record {
  bound : l.sums.bound + priced_in (drop l.cycle-index l.cycles) ≡ priced_in l.cycles;
  gap : l.sums.gap + sum_of (λ (c : PricedCycle). c.priced - c.value) (drop l.cycle-index l.cycles) ≡ sum_of (λ (c : PricedCycle). c.priced - c.value) l.cycles;
  small_bound : l.sums.bound ≤ l.cycle-index * 2 ^ 64;
  small_gap : l.sums.gap ≤ l.cycle-index * 2 ^ 64;
}

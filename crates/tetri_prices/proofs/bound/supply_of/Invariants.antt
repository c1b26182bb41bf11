use Rattle.std.proofs.Common.{◌≡◌, ◌≤◌, ◌+◌, ◌-◌, ◌*◌, ◌^◌, length}
use Rattle.std.specs.List.{range_with_len}
use Rattle.tetri_base.specs.Lists.{sum_of}
use Rattle.tetri_space.specs.Partitions.{available, partitions}
use Rattle.tetri_space.specs.Space.{space}
use Rattle.tetri_prices.specs.Priced.{listed, window_slots}
use Rattle.tetri_prices.specs.Prices.{rows_of}
use Rattle.tetri_prices.proofs.bound.supply_of.Given as goal

abbrev pub invariant-loop-part : goal.invariant-loop-part
invariant-loop-part l = record {
  so_far : l.cost + sum_of (λ p. sum_of (λ t. listed l.fn.inst.now (rows_of l.fn.prices) p t * available (space l.fn.inst) (partitions (space l.fn.inst)) p t) (window_slots (space l.fn.inst)))
      (range_with_len (0 + l.part) (length (partitions (space l.fn.inst)) - l.part))
      ≡ sum_of (λ p. sum_of (λ t. listed l.fn.inst.now (rows_of l.fn.prices) p t * available (space l.fn.inst) (partitions (space l.fn.inst)) p t) (window_slots (space l.fn.inst)))
      (range_with_len 0 (length (partitions (space l.fn.inst))));
  small : l.cost ≤ l.part * 2 ^ 102;
}

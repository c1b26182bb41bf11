use Rattle.std.proofs.Common.{◌≡◌, ◌≤◌, ◌+◌, ◌-◌, ◌*◌, ◌^◌, get_or}
use Rattle.std.specs.List.{range_with_len}
use Rattle.tetri_base.specs.Lists.{sum_of}
use Rattle.tetri_space.specs.Partitions.{available, partitions}
use Rattle.tetri_space.specs.Space.{space}
use Rattle.tetri_prices.proofs.bound.part_supply.Given as goal

abbrev pub invariant-loop-place : goal.invariant-loop-place
invariant-loop-place l = record {
  so_far : l.cost + sum_of (λ t. get_or l.fn.prices (t - l.fn.inst.now) 0 * available (space l.fn.inst) (partitions (space l.fn.inst)) l.fn.part t) (range_with_len (l.fn.inst.now + l.place) (l.fn.inst.window - l.place))
      ≡ sum_of (λ t. get_or l.fn.prices (t - l.fn.inst.now) 0 * available (space l.fn.inst) (partitions (space l.fn.inst)) l.fn.part t) (range_with_len l.fn.inst.now l.fn.inst.window);
  small : l.cost ≤ l.place * 2 ^ 96;
}

use Rattle.std.proofs.Common.{◌≡◌, ◌++◌, ◌-◌, get_or}
use Rattle.std.specs.Prelude.{flat_map}
use Rattle.std.specs.List.{range_with_len}
use Rattle.tetri_priced.specs.Lowest.{above_zero}
use Rattle.tetri_priced.proofs.lowest.add_prices.Given as goal

abbrev pub invariant-loop-place : goal.invariant-loop-place
invariant-loop-place l =
    l.told.items ≡ l.initial.told.items ++ flat_map (λ t. above_zero l.node l.unit t (get_or l.fn.prices (t - l.now) 0)) (range_with_len l.now l.place)

use Rattle.std.proofs.Common.{◌≡◌}
use Rattle.std.specs.Prelude.{flat_map}
use Rattle.std.specs.List.{range_with_len}
use Rattle.tetri_prices.specs.Prices.{rows_of}
use Rattle.tetri_space.specs.Space.{space}
use Rattle.tetri_priced.specs.Lowest.{part_prices}
use Rattle.tetri_priced.proofs.lowest.prices_above_zero.Given as goal

abbrev pub invariant-loop-part : goal.invariant-loop-part
invariant-loop-part l = l.told.items ≡ flat_map (part_prices (space l.inst) l.quote.unit (rows_of l.quote.prices)) (range_with_len 0 l.part)

use Rattle.std.proofs.Common.{◌≡◌, ◌++◌, string_bytes}
use Rattle.std.specs.Prelude.{flat_map}
use Rattle.std.specs.List.{range_with_len}
use Rattle.tetri_svg.specs.Front.{tick_at}
use Rattle.tetri_svg.proofs.front.add_ticks.Given as goal

abbrev pub invariant-loop-slot : goal.invariant-loop-slot
invariant-loop-slot l = string_bytes l.out ≡ string_bytes l.initial.out ++ flat_map (tick_at l.frame l.clock l.stride) (range_with_len 0 l.slot)

use Rattle.std.proofs.Common.{◌≡◌, ◌++◌, string_bytes}
use Rattle.std.specs.Prelude.{flat_map}
use Rattle.std.specs.List.{range_with_len}
use Rattle.tetri_chart.specs.Ends.{slot_text}
use Rattle.tetri_chart.proofs.back.add_slots.Given as goal

abbrev pub invariant-loop-slot : goal.invariant-loop-slot
invariant-loop-slot l = string_bytes l.out ≡ string_bytes l.initial.out ++ flat_map (slot_text l.frame l.most l.longest l.cycles) (range_with_len 0 l.slot)

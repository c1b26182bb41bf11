use Rattle.std.proofs.Common.{◌≡◌, ◌++◌, take, string_bytes}
use Rattle.std.specs.Prelude.{flat_map}
use Rattle.tetri_trace.specs.Scenario.{scenario}
use Rattle.tetri_priced.specs.Text.{cycle_text}
use Rattle.tetri_priced.proofs.telling.add_cycles.Given as goal

abbrev pub invariant-loop-cycle : goal.invariant-loop-cycle
invariant-loop-cycle l = string_bytes l.out ≡ string_bytes l.initial.out ++ flat_map (cycle_text (scenario l.trace) l.prices) (take l.cycle-index l.cycles)

use Rattle.std.proofs.Common.{◌≡◌, ◌++◌, take, string_bytes}
use Rattle.std.specs.Prelude.{flat_map}
use Rattle.tetri_trace.specs.Scenario.{scenario}
use Rattle.tetri_chart.specs.Ends.{wait_bars}
use Rattle.tetri_chart.proofs.back.add_waits.Given as goal

abbrev pub invariant-loop-wait : goal.invariant-loop-wait
invariant-loop-wait l = string_bytes l.out ≡ string_bytes l.initial.out ++ flat_map (wait_bars (scenario l.trace) l.frame) (take l.wait-index l.waits)

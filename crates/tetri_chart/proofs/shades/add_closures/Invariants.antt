use Rattle.std.proofs.Common.{◌≡◌, ◌++◌, take, string_bytes}
use Rattle.std.specs.Prelude.{flat_map}
use Rattle.tetri_trace.specs.Scenario.{scenario}
use Rattle.tetri_chart.specs.Shades.{closure_text}
use Rattle.tetri_chart.proofs.shades.add_closures.Given as goal

abbrev pub invariant-loop-closure : goal.invariant-loop-closure
invariant-loop-closure l = string_bytes l.out ≡ string_bytes l.initial.out ++ flat_map (closure_text (scenario l.trace) l.frame) (take l.closure-index l.closure-items)

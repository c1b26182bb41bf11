use Rattle.std.proofs.Common.{◌≡◌, ◌++◌, drop, string_bytes}
use Rattle.tetri_trace.specs.Scenario.{scenario}
use Rattle.tetri_chart.specs.Shades.{outages_text}
use Rattle.tetri_chart.proofs.shades.add_outages.Given as goal

abbrev pub invariant-loop-place : goal.invariant-loop-place
invariant-loop-place l =
    string_bytes l.out ++ outages_text (scenario l.trace) l.frame (drop l.place l.trace.events.items)
    ≡ string_bytes l.initial.out ++ outages_text (scenario l.trace) l.frame l.trace.events.items

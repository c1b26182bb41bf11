use Rattle.std.proofs.Common.{◌≡◌, ◌++◌, map, string_bytes, take}
use Rattle.std.specs.Prelude.{flat_map}
use Rattle.tetri_trace.specs.Scenario.{submission}
use Rattle.tetri_workload.specs.Text.{event_text, header_text}
use Rattle.tetri_workload.proofs.text.trace_text.Given as goal

abbrev pub invariant-loop-event : goal.invariant-loop-event
invariant-loop-event l = string_bytes l.text ≡ header_text l.settings l.nodes l.taken.until ++ flat_map (event_text l.settings l.taken.sets.items (map submission l.taken.jobs)) (take l.event-index l.taken.events.items)

use Rattle.std.proofs.Common.{◌≡◌, ◌≤◌, take}
use Rattle.std.specs.Io.KnownBytes.{append_known}
use Rattle.tetri_trace.specs.Scenario.{scenario}
use Rattle.tetri_chart.specs.Svg.{bars_text}
use Rattle.tetri_chart.proofs.writing.send_spans.Given as goal

abbrev pub invariant-loop-span : goal.invariant-loop-span
invariant-loop-span g l = record {
  written : g.K.Sink.written l.sink ≡ append_known (g.K.Sink.written l.fn.sink) (bars_text (scenario l.trace) l.frame l.paint (take l.span-index l.spans));
  later : g.K.Sink.faults l.fn.sink ≤ g.K.Sink.faults l.sink;
}

use Rattle.std.proofs.Common.{◌≤◌, ◌*◌, ◌^◌}
use Rattle.tetri_trace.specs.Scenario.{scenario}
use Rattle.tetri_cycles.specs.Progress.{RanSlots}
use Rattle.tetri_cycles.proofs.cycles.run_slots.Given as goal

abbrev pub invariant-loop-number : goal.invariant-loop-number
invariant-loop-number g l = record {
  ran : RanSlots g.P.Planner.planning l.telling l.fn.planner l.planner (scenario l.trace) l.number l.state l.tally (g.K.Sink.written l.fn.sink) (g.K.Sink.written l.sink);
  small_worth : l.tally.worth ≤ l.number * 2 ^ 64;
  small_optimal : l.tally.optimal ≤ l.number;
  later : g.K.Sink.faults l.fn.sink ≤ g.K.Sink.faults l.sink;
}

use Rattle.std.proofs.Common.{◌≡◌}
use Rattle.tetri_state.specs.Reached.{IsReached, between}
use Rattle.tetri_trace.specs.Scenario.{scenario}
use Rattle.tetri_programs.proofs.cycle.export_cycle.Given as goal

abbrev pub invariant-loop-number : goal.invariant-loop-number
invariant-loop-number g l = record {
  reached : IsReached (scenario l.trace) between l.state;
  now : l.state.now ≡ l.number;
}

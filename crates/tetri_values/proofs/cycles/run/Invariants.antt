use Rattle.tetri_trace.specs.Scenario.{scenario}
use Rattle.tetri_state.specs.Reached.{IsReached, between}
use Rattle.tetri_values.proofs.cycles.run.Given as goal

abbrev pub invariant-loop-rows : goal.invariant-loop-rows
invariant-loop-rows l = IsReached (scenario l.trace) between l.state

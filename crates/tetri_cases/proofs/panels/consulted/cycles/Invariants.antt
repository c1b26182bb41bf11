use Rattle.tetri_trace.specs.Scenario.{scenario}
use Rattle.tetri_state.specs.Reached.{IsReached, between}
use Rattle.tetri_cases.proofs.panels.consulted.cycles.Given as goal

abbrev pub invariant-loop-rows : goal.invariant-loop-rows
invariant-loop-rows g l = IsReached (scenario l.trace) between l.state

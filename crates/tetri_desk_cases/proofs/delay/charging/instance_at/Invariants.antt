use Rattle.tetri_state.specs.Reached as moment
use Rattle.tetri_state.specs.Reached.{IsReached}
use Rattle.tetri_trace.specs.Scenario.{scenario}
use Rattle.tetri_desk_cases.proofs.delay.charging.instance_at.Given as goal

abbrev pub invariant-loop : goal.invariant-loop
invariant-loop l = IsReached (scenario l.trace) moment.between l.state

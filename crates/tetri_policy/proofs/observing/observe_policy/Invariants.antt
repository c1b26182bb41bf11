use Rattle.std.proofs.Common.{◌≡◌}
use Rattle.tetri_state.specs.Reached.{IsReached, between}
use Rattle.tetri_trace.specs.Scenario.{scenario}
use Rattle.tetri_policy.specs.Run.{RanCycles}
use Rattle.tetri_policy.proofs.observing.observe_policy.Given as goal

abbrev pub invariant-loop-number : goal.invariant-loop-number
invariant-loop-number g l = record {
  ran : RanCycles g.O.Observer.saw l.policy (scenario l.trace) l.number l.state l.fn.observer l.observer;
  reached : IsReached (scenario l.trace) between l.state;
}

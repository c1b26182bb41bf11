use Rattle.std.proofs.Common.{◌≡◌, ◌++◌, drop, map}
use Rattle.tetri_space.specs.Space.{bid}
use Rattle.tetri_trace.specs.Scenario.{scenario}
use Rattle.tetri_state.specs.Planning.{bid_of}
use Rattle.tetri_state.proofs.planning.offers.Given as goal

abbrev pub invariant-loop-job : goal.invariant-loop-job
invariant-loop-job l = map bid l.offers.items ++ map (bid_of (scenario l.trace) l.now) (drop l.job-index l.pending) ≡ map (bid_of (scenario l.trace) l.now) l.pending

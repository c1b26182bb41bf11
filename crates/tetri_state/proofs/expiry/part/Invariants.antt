use Rattle.std.proofs.Common.{◌≡◌, ◌++◌, drop, filter}
use Rattle.std.specs.Prelude.{not}
use Rattle.tetri_state.specs.Begin.{has_expired}
use Rattle.tetri_trace.specs.Scenario.{scenario}
use Rattle.tetri_state.proofs.expiry.part.Given as goal

abbrev pub invariant-loop-job : goal.invariant-loop-job
invariant-loop-job l = record {
  pending : l.parted.pending.items ++ filter (λ j. not (has_expired (scenario l.trace) l.now j)) (drop l.job-index l.pending)
      ≡ filter (λ j. not (has_expired (scenario l.trace) l.now j)) l.pending;
  expired : l.parted.expired.items ++ filter (has_expired (scenario l.trace) l.now) (drop l.job-index l.pending)
      ≡ filter (has_expired (scenario l.trace) l.now) l.pending;
}

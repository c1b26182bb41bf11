-- What happens is told of jobs of the trace.
use Rattle.std.specs.Prelude.{◌<◌, All, length}
use Rattle.tetri_trace.specs.Scenario.{Scenario}
use Rattle.tetri_state.specs.Begin.{Occurrences}

pub record AreOfJobs (t : Scenario) (o : Occurrences) : Type 0 where
  pub ended : All (λ p. p.job < length t.submissions) o.ended
  pub cancelled : All (λ job. job < length t.submissions) o.cancelled
  pub failed : All (λ job. job < length t.submissions) o.failed
  pub over : All (λ p. p.job < length t.submissions) o.over
  pub expired : All (λ job. job < length t.submissions) o.expired

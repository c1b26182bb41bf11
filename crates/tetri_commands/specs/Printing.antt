-- Which instances are of a trace.
use Rattle.std.specs.Prelude.{◌≡◌, ◌<◌, All, length}
use Rattle.tetri_space.specs.Sound.{IsSound}
use Rattle.tetri_space.specs.Space.{Space}
use Rattle.tetri_trace.specs.Scenario.{Scenario}

-- The instance is one of this trace: it is sound, and its nodes and jobs are the trace's.
pub record IsInstanceOf (t : Scenario) (i : Space) : Type 0 where
  pub sound : IsSound i
  pub nodes : i.nodes ≡ length t.nodes
  pub jobs : All (λ b. b.job < length t.submissions) i.bids

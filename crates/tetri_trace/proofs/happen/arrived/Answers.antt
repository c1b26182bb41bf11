use Rattle.std.proofs.Common.{◌∙◌, ap, arith}
use Rattle.std.proofs.lemmas.Int.{ints}
use Rattle.tetri_cluster.specs.Names.{is_name}
use Rattle.tetri_trace.specs.Scenario.{Scenario}
use Rattle.tetri_trace.proofs.happen.arrived.Goals as goal

pub with_job-requires-clause-job : goal.with_job-requires-clause-job
with_job-requires-clause-job c = record {
  named = ap is_name c.in_ok-name.ensures ∙ c.requires.named;
  in_run = omega (arith, c.requires.next.in_run, ap (λ (s : Scenario). s.header.until) c.in-Ok.ensures.same);
  not_too_early = omega (arith, ints, c.requires.late.0);
  not_too_late = omega (arith, ints, c.requires.late.1);
  demand = c.in-Ok.ensures.good;
}

use Rattle.std.proofs.Common.{◌≡◌, sym, subst}
use Rattle.std.specs.Prelude.{◌↔◌, IfOk, IsTrue, map}
use Rattle.tetri_trace.specs.Scenario.{submission}
use Rattle.tetri_workload.specs.Saying.{nodes_asked, nodes_wanted}
use Rattle.tetri_workload.proofs.SameLemmas.{twice}
use Rattle.tetri_workload.proofs.confirming.have_all_seats.Goals as goal

pub returns : goal.returns
returns c =
    subst (λ xs. IfOk c.have_seats.result (λ alike. IsTrue alike ↔ (xs ≡ map (nodes_wanted c.args.nodes.now) c.args.wanted.now)))
    (sym (twice (nodes_asked c.args.sets.now) submission c.args.jobs.now)) c.have_seats.ensures

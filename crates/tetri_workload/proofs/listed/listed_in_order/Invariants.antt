use Rattle.std.proofs.Common.{◌≡◌, ◌<◌, length, take}
use Rattle.std.specs.Prelude.{All}
use Rattle.tetri_workload.specs.Listed.{jobs_at}
use Rattle.tetri_workload.proofs.ListedLemmas.{AreTold}
use Rattle.tetri_workload.proofs.listed.listed_in_order.Given as goal

abbrev pub invariant-loop-place : goal.invariant-loop-place
invariant-loop-place l = record {
  within : All (λ p. p.place < length l.jobs) l.listed.items;
  told : AreTold l.jobs l.listed.items;
  jobs : jobs_at l.jobs l.listed.items ≡ take l.place l.jobs;
}

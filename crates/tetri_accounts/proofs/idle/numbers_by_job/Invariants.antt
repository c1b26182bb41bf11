use Rattle.std.proofs.Common.{◌≡◌, ◌<◌, ◌≤◌, ℕ, drop, false, get_or, length}
use Rattle.tetri_base.specs.Lists.{has}
use Rattle.tetri_accounts.proofs.idle.numbers_by_job.Given as goal

abbrev pub invariant-loop-place : goal.invariant-loop-place
invariant-loop-place l = record {
  within : l.place ≤ length l.numbers;
  len : length l.have.items ≡ l.jobs;
  found : (job : ℕ) → job < l.jobs → get_or l.have.items job false ≡ has (drop l.place l.numbers) job;
}

abbrev pub decreases-loop-place : goal.decreases-loop-place
decreases-loop-place l = l.place

use Rattle.std.proofs.Common.{◌≡◌, ◌<◌, ◌≤◌, ◌==◌, ℕ, drop, get_or, length}
use Rattle.std.specs.Prelude.{None, find}
use Rattle.tetri_accounts.proofs.idle.first_gone.Given as goal

abbrev pub invariant-loop-place : goal.invariant-loop-place
invariant-loop-place l = record {
  within : l.place ≤ length l.gone;
  len : length l.first.items ≡ l.jobs;
  found : (job : ℕ) → job < l.jobs → get_or l.first.items job None ≡ find (λ d. d.job == job) (drop l.place l.gone);
}

abbrev pub decreases-loop-place : goal.decreases-loop-place
decreases-loop-place l = l.place

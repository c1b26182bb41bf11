use Rattle.std.proofs.Common.{◌≡◌, ◌++◌, drop, map}
use Rattle.tetri_accounts.specs.Rows.{gone_at}
use Rattle.tetri_accounts.proofs.slot.add_gone.Given as goal

abbrev pub invariant-loop-job : goal.invariant-loop-job
invariant-loop-job l = l.gone.items ++ map (gone_at l.at l.outcome) (drop l.job-index l.jobs) ≡ l.initial.gone.items ++ map (gone_at l.at l.outcome) l.jobs

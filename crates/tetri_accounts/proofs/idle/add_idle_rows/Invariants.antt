use Rattle.std.proofs.Common.{◌≡◌, ◌++◌}
use Rattle.std.specs.Prelude.{flat_map}
use Rattle.std.specs.List.{range_with_len}
use Rattle.tetri_accounts.specs.Rows.{idle_at}
use Rattle.tetri_accounts.proofs.idle.add_idle_rows.Given as goal

abbrev pub invariant-loop-job : goal.invariant-loop-job
invariant-loop-job l = l.rows.items ≡ l.initial.rows.items ++ flat_map (idle_at l.have l.first) (range_with_len 0 l.job)

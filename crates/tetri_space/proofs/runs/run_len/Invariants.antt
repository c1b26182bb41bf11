use Rattle.std.proofs.Common.{◌≤◌, take, All}
use Rattle.tetri_strl.specs.declared.grants.Grant.{Grant}
use Rattle.tetri_space.proofs.runs.run_len.Given as goal

abbrev pub invariant-loop-len : goal.invariant-loop-len
invariant-loop-len l = All (λ (g : Grant). g.job ≤ l.job) (take l.len l.grants)

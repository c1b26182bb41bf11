use Rattle.std.proofs.Common.{◌≡◌, ◌-◌, ◌<◌, ◌≤◌, get_or}
use Rattle.std.specs.List.{AllAdjacentBelow}
use Rattle.tetri_strl.specs.declared.grants.Grant.{Grant}
use Rattle.tetri_space.proofs.runs.ascends_by_job.Given as goal

abbrev pub invariant-loop-grant : goal.invariant-loop-grant
invariant-loop-grant l = record {
  so_far : AllAdjacentBelow (λ (g h : Grant). g.job ≤ h.job) l.grants l.grant-index;
  first : l.grant-index ≡ 0 → l.last ≡ 0;
  last : (d : Grant) → 0 < l.grant-index → l.last ≡ (get_or l.grants (l.grant-index - 1) d).job;
}

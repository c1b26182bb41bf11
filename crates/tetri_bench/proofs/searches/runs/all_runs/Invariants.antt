use Rattle.std.proofs.Common.{◌≡◌, length, All, ◌<◌}
use Rattle.tetri_bench.proofs.searches.runs.all_runs.Given as goal

abbrev pub invariant-loop-mark : goal.invariant-loop-mark
invariant-loop-mark g l = record {
  columns : All (λ t. t.column < length l.region.lower.items) l.trail.items;
  upper : length l.region.upper.items ≡ length l.region.lower.items;
}

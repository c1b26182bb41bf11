use Rattle.std.proofs.Common.{◌+◌, ◌-◌, ◌<◌, ◌≤◌, length}
use Rattle.tetri_num.specs.Frac.{value}
use Rattle.tetri_dictionary.proofs.SparsePivots.{merged_at}
use Rattle.tetri_dictionary.proofs.SparseWalks.{IsMerged}
use Rattle.tetri_dictionary.proofs.merging.merge.Given as goal

abbrev pub invariant-loop-x : goal.invariant-loop-x
invariant-loop-x l = IsMerged (merged_at l.columns l.i (value l.a) l.xs l.ys) l.columns l.xs l.ys l.x l.y l.merged.items

abbrev pub decreases-loop-x : goal.decreases-loop-x
decreases-loop-x l = (length l.xs - l.x) + (length l.ys - l.y)

abbrev pub invariant-loop-x-2 : goal.invariant-loop-x-2
invariant-loop-x-2 l = record {
  merged : IsMerged (merged_at l.columns l.i (value l.a) l.xs l.ys) l.columns l.xs l.ys l.x l.y l.merged.items;
  rest : l.x < length l.xs → length l.ys ≤ l.y;
}

abbrev pub decreases-loop-x-2 : goal.decreases-loop-x-2
decreases-loop-x-2 l = length l.xs - l.x

abbrev pub invariant-loop-y : goal.invariant-loop-y
invariant-loop-y l = record {
  merged : IsMerged (merged_at l.columns l.i (value l.a) l.xs l.ys) l.columns l.xs l.ys l.x l.y l.merged.items;
  done : length l.xs ≤ l.x;
}

abbrev pub decreases-loop-y : goal.decreases-loop-y
decreases-loop-y l = length l.ys - l.y

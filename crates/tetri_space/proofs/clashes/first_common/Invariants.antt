use Rattle.std.proofs.Common.{ℕ, ◌+◌, ◌-◌, ◌<◌, ◌≤◌, Contains, length, get_or}
use Rattle.tetri_space.proofs.clashes.first_common.Given as goal

abbrev pub invariant-loop-place : goal.invariant-loop-place
invariant-loop-place l = record {
  place_within : l.place ≤ length l.nodes;
  other_within : l.other ≤ length l.others;
  passed : (k : ℕ) → k < l.place → Contains l.others (get_or l.nodes k 0) → ⊥;
  others_passed : (k : ℕ) → k < l.other → Contains l.nodes (get_or l.others k 0) → ⊥;
}

abbrev pub decreases-loop-place : goal.decreases-loop-place
decreases-loop-place l = (length l.nodes - l.place) + (length l.others - l.other)

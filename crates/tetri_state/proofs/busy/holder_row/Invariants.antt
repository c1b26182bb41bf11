use Rattle.std.proofs.Common.{◌≡◌, ◌≤◌, drop, filter, length, map, not}
use Rattle.std.specs.List.{range_with_len}
use Rattle.tetri_state.specs.Begin.{has_ended, holder_in}
use Rattle.tetri_state.proofs.busy.holder_row.Given as goal

abbrev pub invariant-loop-left : goal.invariant-loop-left
invariant-loop-left l = record {
  within : l.left ≤ length l.pieces;
  row : l.row.items ≡ map (holder_in (filter (λ p. not (has_ended l.now p)) (drop l.left l.pieces))) (range_with_len 0 l.nodes);
}

abbrev pub decreases-loop-left : goal.decreases-loop-left
decreases-loop-left l = l.left

use Rattle.std.proofs.Common.{◌≡◌, ◌≤◌, drop, length, map}
use Rattle.std.specs.List.{range_with_len}
use Rattle.tetri_state.specs.Planning.{busy_until}
use Rattle.tetri_state.proofs.busy.busy_row.Given as goal

abbrev pub invariant-loop-left : goal.invariant-loop-left
invariant-loop-left l = record {
  within : l.left ≤ length l.pieces;
  row : l.row.items ≡ map (busy_until l.now (drop l.left l.pieces)) (range_with_len 0 l.nodes);
}

abbrev pub decreases-loop-left : goal.decreases-loop-left
decreases-loop-left l = l.left

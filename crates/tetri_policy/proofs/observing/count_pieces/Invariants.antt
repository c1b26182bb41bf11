use Rattle.std.proofs.Common.{◌≤◌, length}
use Rattle.tetri_policy.proofs.observing.count_pieces.Given as goal

abbrev pub invariant-loop-count : goal.invariant-loop-count
invariant-loop-count l = l.count ≤ length l.state.pieces

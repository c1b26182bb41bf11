use Rattle.std.proofs.Common.{◌≡◌, ◌++◌, drop}
use Rattle.tetri_chart.proofs.slot.add_pieces.Given as goal

abbrev pub invariant-loop-place : goal.invariant-loop-place
invariant-loop-place l = l.active.items ++ drop l.place l.state.pieces ≡ l.initial.active.items ++ drop l.from l.state.pieces

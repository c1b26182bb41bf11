use Rattle.std.proofs.Common.{◌≡◌, ◌++◌, drop}
use Rattle.tetri_accounts.proofs.own.pieces_from.Given as goal

abbrev pub invariant-loop-place : goal.invariant-loop-place
invariant-loop-place l = l.pieces.items ++ drop l.place l.state.pieces ≡ drop l.from l.state.pieces

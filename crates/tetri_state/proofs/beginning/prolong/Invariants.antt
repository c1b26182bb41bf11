use Rattle.std.proofs.Common.{◌≡◌, ◌++◌, drop, take, map}
use Rattle.tetri_state.specs.Begin.{prolonged}
use Rattle.tetri_state.proofs.beginning.prolong.Given as goal

abbrev pub invariant-loop-piece : goal.invariant-loop-piece
invariant-loop-piece l = take l.piece-index l.pieces ++ map (prolonged l.now) (drop l.piece-index l.pieces) ≡ map (prolonged l.now) l.fn.pieces

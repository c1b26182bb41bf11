-- Pieces that are the same runs of leaves.
use Rattle.std.specs.Prelude.{◌≡◌, List, map}
use Rattle.tetri_state.specs.declared.pieces.Piece.{Piece}

-- a piece without the end that is expected of it, which is put off while it runs over
abbrev pub as_run : Piece → Piece
as_run p = record p { expected = 0 }

-- the same jobs, leaves, nodes, starts and real ends, in the same order
abbrev pub AreSameRuns : List Piece → List Piece → Type 0
AreSameRuns ps qs = map as_run ps ≡ map as_run qs

-- The way back to the regions that are still open.
use Rattle.std.specs.Prelude.{List, [], ◌∷◌, cond, slice_set}
use Rattle.tetri_ip.specs.Points.{Bounds}
use Rattle.tetri_cert.specs.declared.turns.Turn.{Turn}

-- the region with the bounds of one column put back
abbrev pub put_back : Bounds → Turn → Bounds
put_back b t = record { lower = slice_set b.lower t.column t.lower; upper = slice_set b.upper t.column t.upper }

-- the open regions behind one, the next one first
abbrev pub pending : Bounds → List Turn → List Bounds
pending b [] = []
pending b (t ∷ ts) = cond t.stops (put_back b t ∷ pending (put_back b t) ts) (pending (put_back b t) ts)

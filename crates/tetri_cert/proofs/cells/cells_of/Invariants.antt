use Rattle.std.proofs.Common.{◌≡◌, ◌++◌, drop}
use Rattle.tetri_cert.specs.Cells.{cells_from, cells_of}
use Rattle.tetri_cert.proofs.cells.cells_of.Given as goal

abbrev pub invariant-loop-j : goal.invariant-loop-j
invariant-loop-j l = l.cells ++ cells_from l.j (drop l.j l.point) ≡ cells_of l.point

use Rattle.std.proofs.Common.{◌≡◌, ◌++◌, drop, map}
use Rattle.tetri_num.specs.Frac.{value}
use Rattle.tetri_cert.specs.Cells.{frac_cells_from, frac_cells_of}
use Rattle.tetri_cert.proofs.cells.frac_cells_of.Given as goal

abbrev pub invariant-loop-j : goal.invariant-loop-j
invariant-loop-j l = l.cells ++ frac_cells_from l.j (map value (drop l.j l.point)) ≡ frac_cells_of (map value l.point)

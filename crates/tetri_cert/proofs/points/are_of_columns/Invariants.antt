use Rattle.std.proofs.Common.{◌≡◌, drop}
use Rattle.tetri_cert.specs.Cells.{are_of_columns}
use Rattle.tetri_cert.proofs.points.are_of_columns.Given as goal

abbrev pub invariant-loop-cell : goal.invariant-loop-cell
invariant-loop-cell l = are_of_columns l.count (drop l.cell-index l.cells) ≡ are_of_columns l.count l.cells

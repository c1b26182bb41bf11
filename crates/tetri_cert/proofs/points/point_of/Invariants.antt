use Rattle.std.proofs.Common.{◌≡◌, drop, length}
use Rattle.tetri_cert.specs.Cells.{point_of, with_cells}
use Rattle.tetri_cert.proofs.points.point_of.Given as goal

abbrev pub invariant-loop-cell : goal.invariant-loop-cell
invariant-loop-cell l = record {
  count : length l.point.items ≡ l.count;
  value : with_cells l.point.items (drop l.cell-index l.cells) ≡ point_of l.count l.cells;
}

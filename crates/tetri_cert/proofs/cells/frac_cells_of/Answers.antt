use Rattle.std.proofs.Common.{refl, ◌<◌, arith, length}
use Rattle.tetri_cert.proofs.CellLemmas.{frac_cells_added}
use Rattle.tetri_cert.proofs.cells.frac_cells_of.Goals as goal

pub loop-j-preserved : goal.loop-j-preserved
loop-j-preserved c =
    let l : c.loop-j.j < length c.args.point.now = omega arith in
    frac_cells_added c.args.point.now c.loop-j.j c.loop-j.j c.index-point-j.result c.loop-j.cells c.add_frac_cell.new.cells _ l c.index-point-j.is refl c.in_ok-add_frac_cell.ensures c.loop-j.invariant

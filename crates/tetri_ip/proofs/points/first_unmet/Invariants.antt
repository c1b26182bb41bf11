use Rattle.std.proofs.Common.{◌≡◌, drop}
use Rattle.tetri_ip.specs.Points.{first_unmet_from}
use Rattle.tetri_ip.proofs.points.first_unmet.Given as goal

abbrev pub invariant-loop-i : goal.invariant-loop-i
invariant-loop-i l = first_unmet_from 0 l.p.rows.items l.point ≡ first_unmet_from l.i (drop l.i l.p.rows.items) l.point

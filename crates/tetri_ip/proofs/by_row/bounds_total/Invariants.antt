use Rattle.std.proofs.Common.{◌≡◌, drop}
use Rattle.tetri_ip.specs.Points.{bounds_of}
use Rattle.tetri_ip.specs.Forming.{form_bounds}
use Rattle.tetri_ip.proofs.by_row.bounds_total.Given as goal

abbrev pub invariant-loop-j : goal.invariant-loop-j
invariant-loop-j l = form_bounds (bounds_of l.r) l.j (drop l.j l.factors) l.sum ≡ form_bounds (bounds_of l.r) 0 l.factors l.right

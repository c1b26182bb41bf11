use Rattle.tetri_ip.specs.Points.{IsBetween}
use Rattle.tetri_ip.proofs.points.is_inside.Given as goal

abbrev pub invariant-loop-j : goal.invariant-loop-j
invariant-loop-j l = IsBetween l.j l.r.lower.items l.point l.r.upper.items

use Rattle.std.proofs.Common.{◌≡◌, ◌+◌, ◌<◌, ◌^◌, drop}
use Rattle.std.specs.Prelude.{unsigned_abs}
use lib.IntN.{◌+ℤ◌}
use Rattle.tetri_ip.specs.Points.{left_side, sizes}
use Rattle.tetri_ip.proofs.points.left_side.Given as goal

abbrev pub invariant-loop-term : goal.invariant-loop-term
invariant-loop-term l = record {
  in_range : unsigned_abs l.sum + sizes (drop l.term-index l.row.terms.items) l.point < 2 ^ 127;
  value : l.sum +ℤ left_side (drop l.term-index l.row.terms.items) l.point ≡ left_side l.row.terms.items l.point;
}

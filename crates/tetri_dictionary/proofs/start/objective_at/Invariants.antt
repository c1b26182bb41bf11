use Rattle.std.proofs.Common.{◌≡◌, ◌+◌, ◌<◌, ◌^◌, drop}
use Rattle.std.specs.Prelude.{unsigned_abs}
use lib.IntN.{◌+ℤ◌}
use Rattle.tetri_algebra.specs.IntegerRing.{ℤ_ring}
use Rattle.tetri_algebra.specs.Sums.{dot}
use Rattle.tetri_ip.specs.Points.{cost_reach}
use Rattle.tetri_dictionary.proofs.start.objective_at.Given as goal

abbrev pub invariant-loop-j : goal.invariant-loop-j
invariant-loop-j l = record {
  in_range : unsigned_abs l.sum + cost_reach l.p l.j (drop l.j l.p.costs.items) < 2 ^ 127;
  value : l.sum +ℤ dot ℤ_ring (drop l.j l.p.costs.items) (drop l.j l.start) ≡ dot ℤ_ring l.p.costs.items l.start;
}

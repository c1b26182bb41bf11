use Rattle.std.proofs.Common.{◌≡◌, ℕ, ◌<◌, ◌*ℤ◌, Some, length}
use Rattle.tetri_ip.specs.Points.{number_at}
use Rattle.tetri_ip.specs.Forming.{within}
use Rattle.tetri_ip.proofs.by_row.start_factors.Given as goal

abbrev pub invariant-loop-j : goal.invariant-loop-j
invariant-loop-j l = record {
  count : length l.factors ≡ length l.p.costs.items;
  started : (k : ℕ) → k < l.j → within (l.q *ℤ number_at l.p.costs.items k) ≡ Some (number_at l.factors k);
}

use Rattle.std.proofs.Common.{ℕ, ◌<◌, ◌≤◌, ◌-◌, length}
use Rattle.tetri_ip.specs.Points.{column_at}
use Rattle.tetri_ip.proofs.columns.coefficient_of.Given as goal

abbrev pub invariant-loop-low : goal.invariant-loop-low
invariant-loop-low l = record {
  ordered : l.low ≤ l.high;
  inside : l.high ≤ length l.row.terms.items;
  before : (k : ℕ) → k < l.low → column_at l.row.terms.items k < l.column;
  after : (k : ℕ) → l.high ≤ k → k < length l.row.terms.items → l.column < column_at l.row.terms.items k;
}

abbrev pub decreases-loop-low : goal.decreases-loop-low
decreases-loop-low l = l.high - l.low

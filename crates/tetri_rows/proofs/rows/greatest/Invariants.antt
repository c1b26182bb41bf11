use Rattle.std.proofs.Common.{ℕ, ◌<◌, ◌≤◌}
use Rattle.std.specs.Prelude.{unsigned_abs, ◌≤ℤ◌, pos}
use Rattle.tetri_rows.specs.Rows.{combined_at}
use Rattle.tetri_rows.proofs.rows.greatest.Given as goal

abbrev pub invariant-loop-k : goal.invariant-loop-k
invariant-loop-k l = record {
  sign : pos 0 ≤ℤ l.most;
  least : unsigned_abs l.least ≤ unsigned_abs l.most;
  most : (q : ℕ) → q < l.k → unsigned_abs (combined_at l.d l.f l.row l.pivot q) ≤ unsigned_abs l.most;
}

use Rattle.std.proofs.Common.{◌≡◌, ℕ, ◌<◌, ◌≤◌, length, get_or}
use Rattle.std.specs.Prelude.{pos, ◌*ℤ◌}
use Rattle.tetri_rows.proofs.scaling.multiply.Given as goal

abbrev pub invariant-loop-k : goal.invariant-loop-k
invariant-loop-k l = record {
  front : (q : ℕ) → q < l.k → get_or l.row q (pos 0) ≡ get_or l.fn.row q (pos 0) *ℤ l.scale;
  rest : (q : ℕ) → l.k ≤ q → q < length l.row → get_or l.row q (pos 0) ≡ get_or l.fn.row q (pos 0);
}

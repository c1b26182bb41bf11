use Rattle.std.proofs.Common.{◌≡◌, ℕ, ◌<◌, length, drop}
use Rattle.tetri_ip.specs.Points.{NumbersWithin, number_at}
use Rattle.tetri_ip.specs.Forming.{form_factor}
use Rattle.tetri_ip.proofs.by_row.subtract_rows.Given as goal

abbrev pub invariant-loop-w : goal.invariant-loop-w
invariant-loop-w l = record {
  count : length l.factors ≡ length l.fn.factors;
  in_range : NumbersWithin l.factors;
  taken : (j : ℕ) → j < length l.fn.factors → form_factor l.p.rows.items (drop l.w-index l.weights) j (number_at l.factors j)
      ≡ form_factor l.p.rows.items l.weights j (number_at l.fn.factors j);
}

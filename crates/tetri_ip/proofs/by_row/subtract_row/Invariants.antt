use Rattle.std.proofs.Common.{◌≡◌, ℕ, length, drop}
use Rattle.tetri_ip.specs.Points.{NumbersWithin, coefficient, number_at}
use Rattle.tetri_ip.specs.Forming.{subtract_product}
use Rattle.tetri_ip.proofs.by_row.subtract_row.Given as goal

abbrev pub invariant-loop-term : goal.invariant-loop-term
invariant-loop-term l = record {
  count : length l.factors ≡ length l.fn.factors;
  in_range : NumbersWithin l.factors;
  taken : (j : ℕ) → subtract_product (number_at l.factors j) l.by (coefficient (drop l.term-index l.row.terms.items) j)
      ≡ subtract_product (number_at l.fn.factors j) l.by (coefficient l.row.terms.items j);
}

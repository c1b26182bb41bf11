use Rattle.std.proofs.Common.{◌≡◌, ◌+◌, drop}
use Rattle.std.specs.Prelude.{unsigned_abs}
use Rattle.tetri_ip.specs.Points.{reach}
use Rattle.tetri_cuts.proofs.fitting.is_in_range.Given as goal

abbrev pub invariant-loop-term : goal.invariant-loop-term
invariant-loop-term l = l.sum + reach l.p (drop l.term-index l.row.terms.items) ≡ unsigned_abs l.row.right + reach l.p l.row.terms.items

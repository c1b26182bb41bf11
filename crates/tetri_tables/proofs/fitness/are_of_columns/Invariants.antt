use Rattle.std.proofs.Common.{ℕ, ◌<◌}
use Rattle.tetri_ip.specs.Points.{column_at, term_at}
use Rattle.tetri_algebra.specs.Range.{IsWithin}
use Rattle.tetri_tables.proofs.fitness.are_of_columns.Given as goal

abbrev pub invariant-loop-term : goal.invariant-loop-term
invariant-loop-term l = ((k : ℕ) → k < l.term-index → column_at l.terms k < l.columns) × ((k : ℕ) → k < l.term-index → IsWithin (term_at l.terms k).by)

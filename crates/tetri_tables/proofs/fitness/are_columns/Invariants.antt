use Rattle.std.proofs.Common.{ℕ, ◌<◌}
use Rattle.std.specs.Prelude.{pos, ◌≤ℤ◌, ◌-ℤ◌}
use Rattle.tetri_ip.specs.Points.{number_at}
use Rattle.tetri_algebra.specs.Range.{IsWithin}
use Rattle.tetri_tables.proofs.fitness.are_columns.Given as goal

abbrev pub invariant-loop-k : goal.invariant-loop-k
invariant-loop-k l =
    ((j : ℕ) → j < l.k → pos 0 ≤ℤ number_at l.p.lower.items j)
    × ((j : ℕ) → j < l.k → number_at l.p.lower.items j ≤ℤ number_at l.p.upper.items j)
    × ((j : ℕ) → j < l.k → IsWithin (number_at l.p.costs.items j))
    × ((j : ℕ) → j < l.k → IsWithin (number_at l.p.lower.items j))
    × ((j : ℕ) → j < l.k → IsWithin (number_at l.p.upper.items j))
    × ((j : ℕ) → j < l.k → IsWithin (number_at l.p.upper.items j -ℤ number_at l.p.lower.items j))

use Rattle.std.proofs.Common.{◌≡◌, ◌++◌, drop, map}
use Rattle.tetri_algebra.specs.Rational.{whole_ℚ}
use lib.IntN.{◌*ℤ◌}
use Rattle.tetri_dictionary.specs.Fractions.{values}
use Rattle.tetri_dictionary.specs.Start.{objective_row, direction}
use Rattle.tetri_dictionary.proofs.start.objective_row.Given as goal

abbrev pub invariant-loop-j : goal.invariant-loop-j
invariant-loop-j l =
    values l.objective.items ++ map whole_ℚ (map (λ c. c *ℤ direction c) (drop l.j l.p.costs.items))
    ≡ map whole_ℚ (objective_row l.p.costs.items l.start)

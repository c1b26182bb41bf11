use Rattle.std.proofs.Common.{◌≡◌, ◌++◌, ◌∷◌, drop, map}
use Rattle.tetri_algebra.specs.Rational.{whole_ℚ}
use Rattle.tetri_dictionary.specs.Fractions.{values}
use Rattle.tetri_dictionary.specs.Start.{minus_one_at}
use Rattle.tetri_dictionary.proofs.start.bound_row.Given as goal

abbrev pub invariant-loop-k : goal.invariant-loop-k
invariant-loop-k l =
    values l.slack.items ++ map whole_ℚ (minus_one_at l.j l.k (drop l.k l.p.costs.items))
    ≡ whole_ℚ l.width ∷ map whole_ℚ (minus_one_at l.j 0 l.p.costs.items)

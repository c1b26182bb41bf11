use Rattle.std.proofs.Common.{◌≡◌, ◌++◌, drop, map}
use Rattle.tetri_algebra.specs.Rational.{whole_ℚ}
use Rattle.tetri_dictionary.specs.Fractions.{values}
use Rattle.tetri_dictionary.specs.Start.{slack_row, slack_from}
use Rattle.tetri_dictionary.proofs.start.slack_row.Given as goal

abbrev pub invariant-loop-j : goal.invariant-loop-j
invariant-loop-j l =
    values l.slack.items ++ map whole_ℚ (slack_from l.row.terms.items l.j (drop l.j l.p.costs.items))
    ≡ map whole_ℚ (slack_row l.p.costs.items l.start l.row)

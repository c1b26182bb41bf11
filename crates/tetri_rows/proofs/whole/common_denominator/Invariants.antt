use Rattle.tetri_rows.specs.Small.{IsDenominator}
use Rattle.tetri_rows.proofs.whole.common_denominator.Given as goal

abbrev pub invariant-loop-k : goal.invariant-loop-k
invariant-loop-k l = IsDenominator l.den

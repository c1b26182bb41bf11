use Rattle.std.proofs.Common.{◌≡◌, drop}
use Rattle.std.specs.Prelude.{unsigned_abs, ◌<ℤ◌}
use lib.IntN.{pos}
use Rattle.tetri_algebra.specs.Range.{IsWithin}
use Rattle.tetri_simplex.specs.Ends.{common_denominator}
use Rattle.tetri_dictionary.specs.Fractions.{values}
use Rattle.tetri_simplex.proofs.weights.common_denominator.Given as goal

abbrev pub invariant-loop-i : goal.invariant-loop-i
invariant-loop-i l = record {
  formed : common_denominator l.i (unsigned_abs l.q) (drop l.i (values l.weights)) ≡ common_denominator 0 1 (values l.weights);
  positive : pos 0 <ℤ l.q;
  within : IsWithin l.q;
}

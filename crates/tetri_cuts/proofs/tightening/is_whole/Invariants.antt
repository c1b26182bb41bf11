use Rattle.std.proofs.Common.{ℕ, ◌<◌}
use Rattle.tetri_dictionary.specs.Fractions.{values}
use Rattle.tetri_simplex.specs.Relaxation.{IsWhole, coordinate}
use Rattle.tetri_cuts.proofs.tightening.is_whole.Given as goal

abbrev pub invariant-loop-i : goal.invariant-loop-i
invariant-loop-i l = (k : ℕ) → k < l.i → IsWhole (coordinate (values l.point) k)

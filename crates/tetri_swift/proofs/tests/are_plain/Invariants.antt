use Rattle.std.proofs.Common.{drop}
use Rattle.tetri_swift.specs.Weights.{Climb}
use Rattle.tetri_swift.proofs.tests.are_plain.Given as goal

abbrev pub invariant-loop-w : goal.invariant-loop-w
invariant-loop-w l = Climb l.rows l.least (drop l.w-index l.weights) → Climb l.rows 0 l.weights

use Rattle.std.proofs.Common.{[], replicate}
use Rattle.tetri_wide.specs.Sketch.{Grows, sketch}
use Rattle.tetri_wide.proofs.walking.add_marks.Given as goal

abbrev pub invariant-loop : goal.invariant-loop
invariant-loop l = Grows (sketch l.fn.out) (sketch l.out) (replicate l.counter 1) [] []

use Rattle.std.proofs.Common.{[], replicate}
use Rattle.tetri_compile.specs.steps.Walked.{Grows}
use Rattle.tetri_compile.proofs.walking.add_marks.Given as goal

abbrev pub invariant-loop : goal.invariant-loop
invariant-loop l = Grows l.fn.out l.out (replicate l.counter 1) [] []

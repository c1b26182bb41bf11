use Rattle.std.proofs.Common.{◌≡◌, ◌++◌, drop, map}
use Rattle.tetri_num.specs.Frac.{value}
use Rattle.tetri_simplex.specs.Relaxation.{numerators}
use Rattle.tetri_search.proofs.marks.numerators.Given as goal

abbrev pub invariant-loop-j : goal.invariant-loop-j
invariant-loop-j l = l.numbers.items ++ numerators (map value (drop l.j l.point)) ≡ numerators (map value l.point)

use Rattle.std.proofs.Common.{◌≡◌, ◌++◌, drop}
use Rattle.tetri_compile.specs.Counting.{taken_at}
use Rattle.tetri_compile.proofs.taking.counts_of.Given as goal

abbrev pub invariant-loop-count : goal.invariant-loop-count
invariant-loop-count l = l.taken.items ++ taken_at l.point (drop l.count-index l.c.counts.items) ≡ taken_at l.point l.c.counts.items

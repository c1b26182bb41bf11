use Rattle.std.proofs.Common.{◌≡◌}
use Rattle.tetri_queue.specs.Arrays.{most_of, throttles}
use Rattle.tetri_queue.proofs.arrays.Limits.count_lines.Given as goal

abbrev pub invariant-loop-line : goal.invariant-loop-line
invariant-loop-line l = record { arrays : l.self.arrays ≡ l.initial.self.arrays; most : most_of (throttles l.self) ≡ most_of (throttles l.initial.self) }

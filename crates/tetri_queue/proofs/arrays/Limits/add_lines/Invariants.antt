use Rattle.std.proofs.Common.{◌≡◌, take, map}
use Rattle.std.specs.Prelude.{fold}
use Rattle.tetri_queue.specs.Arrays.{throttles, with_limit_line}
use Rattle.tetri_queue.proofs.arrays.Limits.add_lines.Given as goal

abbrev pub invariant-loop-line : goal.invariant-loop-line
invariant-loop-line l = throttles l.self ≡ fold with_limit_line (throttles l.initial.self) (map (λ x. x.now) (take l.line-index l.line-items))

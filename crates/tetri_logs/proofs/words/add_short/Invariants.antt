use Rattle.std.proofs.Common.{◌≡◌, ◌+◌, ◌-◌, ◌≤◌, ◌++◌, drop, length, map}
use Rattle.std.specs.Prelude.{◌==◌}
use Rattle.std.specs.List.{position_or_len}
use Rattle.tetri_io.specs.Words.{parts_at}
use Rattle.tetri_logs.proofs.words.add_short.Given as goal

abbrev pub invariant-loop-end : goal.invariant-loop-end
invariant-loop-end l = record {
  inside : l.begin ≤ length l.line;
  next : l.end ≡ l.begin + position_or_len (λ b. b == l.mark) (drop l.begin l.line);
  same : map (λ x. x.now) l.parts.items ++ parts_at l.mark (drop l.begin l.line) ≡ map (λ x. x.now) l.fn.parts.items ++ parts_at l.mark l.line;
}

abbrev pub decreases-loop-end : goal.decreases-loop-end
decreases-loop-end l = length l.line - l.begin

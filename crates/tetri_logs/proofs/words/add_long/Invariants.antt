use Rattle.std.proofs.Common.{◌≡◌, ◌+◌, ◌-◌, ◌≤◌, ◌<◌, ◌++◌, drop, length, map, min}
use Rattle.tetri_io.specs.Words.{parts_at}
use Rattle.tetri_logs.specs.Words.{next_place}
use Rattle.tetri_logs.proofs.words.add_long.Given as goal

abbrev pub invariant-loop-at : goal.invariant-loop-at
invariant-loop-at l = record {
  inside : l.begin ≤ min l.at (length l.line);
  near : l.at < length l.line + 64;
  next : next_place l.mark l.line l.begin ≡ next_place l.mark l.line (min l.at (length l.line));
  same : map (λ x. x.now) l.parts.items ++ parts_at l.mark (drop l.begin l.line) ≡ map (λ x. x.now) l.fn.parts.items ++ parts_at l.mark l.line;
}

abbrev pub decreases-loop-at : goal.decreases-loop-at
decreases-loop-at l = length l.line + 64 - l.at

use Rattle.std.proofs.Common.{◌≡◌, ◌+◌, ◌-◌, ◌≤◌, ◌++◌, drop, length, map, min}
use Rattle.std.specs.Prelude.{◌==◌}
use Rattle.tetri_io.specs.Words.{parts_at}
use Rattle.tetri_logs.specs.Words.{next_place}
use Rattle.tetri_logs.proofs.ScanLemmas.{left}
use Rattle.tetri_logs.proofs.words.add_parts.Given as goal

abbrev pub invariant-loop-found : goal.invariant-loop-found
invariant-loop-found l = record {
  inside : l.begin ≤ min (l.at + 64) (length l.line);
  found : l.found ≡ left (λ b. b == l.mark) l.line l.at (l.begin - l.at) (min (l.at + 64) (length l.line));
  next : next_place l.mark l.line l.begin ≡ next_place l.mark l.line (l.at + (l.begin - l.at));
  same : map (λ x. x.now) l.parts.items ++ parts_at l.mark (drop l.begin l.line) ≡ map (λ x. x.now) l.fn.parts.items ++ parts_at l.mark (drop l.fn.begin l.line);
}

abbrev pub decreases-loop-found : goal.decreases-loop-found
decreases-loop-found l = l.found

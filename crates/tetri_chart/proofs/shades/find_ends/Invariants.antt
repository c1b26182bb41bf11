use Rattle.std.proofs.Common.{◌≡◌, ◌≤◌, drop, length, map}
use Rattle.std.specs.List.{range_with_len}
use Rattle.tetri_chart.specs.Shades.{ends_of, next_change}
use Rattle.tetri_chart.proofs.shades.find_ends.Given as goal

abbrev pub invariant-loop-left : goal.invariant-loop-left
invariant-loop-left l = record {
  within : l.left ≤ length l.events;
  row : l.next.items ≡ map (λ n. next_change (drop l.left l.events) n l.until) (range_with_len 0 l.nodes);
  counted : length l.ends.items ≡ length l.events;
  ends : drop l.left l.ends.items ≡ ends_of l.until (drop l.left l.events);
}

abbrev pub decreases-loop-left : goal.decreases-loop-left
decreases-loop-left l = l.left

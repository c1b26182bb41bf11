use Rattle.std.proofs.Common.{◌≡◌, ◌≤◌, ◌++◌, ◌-◌, drop, filter, length, take}
use Rattle.tetri_assign.specs.steps.Taking.{may_use, ready}
use Rattle.tetri_assign.proofs.backs.ready.Given as goal

abbrev pub invariant-loop-seen : goal.invariant-loop-seen
invariant-loop-seen l = record {
  within : l.seen ≤ length l.nodes;
  so_far : l.first.items ++ ready l.back l.slot l.left (drop l.seen l.nodes) ≡ ready l.back l.slot l.many l.nodes;
  seen : filter (may_use l.back l.slot) (take l.seen l.nodes) ≡ l.first.items;
}

abbrev pub decreases-loop-seen : goal.decreases-loop-seen
decreases-loop-seen l = length l.nodes - l.seen

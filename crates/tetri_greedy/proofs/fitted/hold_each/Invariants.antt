use Rattle.std.proofs.Common.{◌≡◌, drop, length}
use Rattle.tetri_greedy.specs.Fitted.{placements_of}
use Rattle.tetri_greedy.specs.Held.{AreHoldable, all_marked}
use Rattle.tetri_greedy.proofs.fitted.hold_each.Given as goal

abbrev pub invariant-loop-place : goal.invariant-loop-place
invariant-loop-place l = record {
  as_many : length l.held ≡ length l.fn.held;
  holdable : AreHoldable l.now (length l.fn.held) (placements_of (drop l.place l.leaves) (drop l.place l.grants));
  so_far :
      all_marked l.now l.held (placements_of (drop l.place l.leaves) (drop l.place l.grants)) ≡
      all_marked l.now l.fn.held (placements_of l.leaves l.grants);
}

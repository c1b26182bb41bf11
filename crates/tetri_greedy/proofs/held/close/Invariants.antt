use Rattle.std.proofs.Common.{◌≡◌, ℕ, ◌-◌, ◌<◌, ◌≤◌, ◌&&◌, get_or, length, not}
use Rattle.tetri_base.specs.Lists.{bit}
use Rattle.tetri_greedy.specs.Held.{is_clear}
use Rattle.tetri_greedy.proofs.held.close.Given as goal

abbrev pub invariant-loop-slot : goal.invariant-loop-slot
invariant-loop-slot l = record {
  sixty : length l.room ≡ 64;
  closed : (k : ℕ) → k < l.slot → get_or l.room k 0 ≡ get_or l.fn.room k 0 - bit (is_clear k l.before && not (is_clear k l.after));
  rest : (k : ℕ) → l.slot ≤ k → get_or l.room k 0 ≡ get_or l.fn.room k 0;
}

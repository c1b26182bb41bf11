use Rattle.std.proofs.Common.{◌≡◌, ℕ, ◌<◌, ◌≤◌, get_or, length}
use Rattle.tetri_space.specs.Space.{space}
use Rattle.tetri_greedy.specs.Held.{busy_slots}
use Rattle.tetri_greedy.proofs.held.HeldSlots.of.Given as goal

abbrev pub invariant-loop-node : goal.invariant-loop-node
invariant-loop-node l = record {
  as_many : length l.held ≡ (space l.inst).nodes;
  busy : (n : ℕ) → n < l.node → get_or l.held n 0 ≡ busy_slots (space l.inst) n;
  rest : (n : ℕ) → l.node ≤ n → n < length l.held → get_or l.held n 0 ≡ 0;
}

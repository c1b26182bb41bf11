use Rattle.std.proofs.Common.{◌≡◌, ◌≤◌, ◌<◌, ℕ}
use Prim.Native.Nat.{◌/◌}
use Rattle.tetri_dictionary.specs.Holders.{bit}
use Rattle.tetri_dictionary.proofs.holders.next_set.Given as goal

abbrev pub invariant-loop-place : goal.invariant-loop-place
invariant-loop-place l = (q : ℕ) → l.from ≤ q → q / 64 < l.place → bit l.words q ≡ 0

use Rattle.std.proofs.Common.{◌≡◌, ◌<◌, ℕ}
use Prim.Native.Nat.{◌/◌}
use Rattle.tetri_dictionary.specs.Holders.{bit}
use Rattle.tetri_dictionary.proofs.holders.unite.Given as goal

abbrev pub invariant-loop-k : goal.invariant-loop-k
invariant-loop-k l = record {
  own : (q : ℕ) → bit l.words q ≡ 0 → bit l.fn.words q ≡ 0;
  others : (q : ℕ) → q / 64 < l.k → bit l.words q ≡ 0 → bit l.others q ≡ 0;
}

use Rattle.std.proofs.Common.{◌≡◌, length}
use Rattle.std.specs.Global.{Vec}
use Rattle.std.specs.Prelude.{All}
use Prim.Native.Nat.{ℕ}
use Rattle.tetri_dictionary.proofs.holders.none.Given as goal

abbrev pub invariant-loop : goal.invariant-loop
invariant-loop l = record {
  columns : length l.holders.items ≡ l.counter;
  words : All (λ (v : Vec ℕ). length v.items ≡ l.words) l.holders.items;
}

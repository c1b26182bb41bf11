use Rattle.std.proofs.Common.{◌≡◌, ◌-◌, ◌^◌, ℕ, length, replicate}
use Rattle.std.specs.Global.{Vec}
use Rattle.std.specs.Prelude.{All}
use Rattle.tetri_dictionary.proofs.pairs_out.all_bits.Given as goal

abbrev pub invariant-loop : goal.invariant-loop
invariant-loop l = record {
  columns : length l.holders.items ≡ l.counter;
  full : All (λ (v : Vec ℕ). v.items ≡ replicate l.words (2 ^ 64 - 1)) l.holders.items;
}

use Rattle.std.proofs.Common.{◌≡◌, ◌≢◌, ◌<◌, ◌⊎◌, ℕ, length, get_or}
use Prim.Native.Nat.{suc}
use Rattle.std.specs.Global.{Vec}
use Rattle.std.specs.Prelude.{All}
use Rattle.tetri_dictionary.specs.Holders.{bit, words_at}
use Rattle.tetri_dictionary.proofs.holders.spread_terms.Given as goal

abbrev pub invariant-loop-t : goal.invariant-loop-t
invariant-loop-t l = record {
  words : All (λ (v : Vec ℕ). length v.items ≡ length l.own) l.holders;
  before : (p q : ℕ) → bit (words_at l.holders p) q ≡ 0 → bit (words_at l.fn.holders p) q ≡ 0;
  own : (p q : ℕ) → bit (words_at l.holders p) q ≡ 0 → ((t : ℕ) → t < l.t → get_or l.places t 0 ≢ suc p) ⊎ (bit l.own q ≡ 0);
}

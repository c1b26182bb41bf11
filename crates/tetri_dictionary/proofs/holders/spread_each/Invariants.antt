use Rattle.std.proofs.Common.{◌≡◌, ◌<◌, ◌⊎◌, ℕ, length, get_or}
use Prim.Native.Nat.{suc}
use Rattle.std.specs.Global.{Vec}
use Rattle.std.specs.Prelude.{All}
use Rattle.tetri_algebra.specs.RationalRing.{zero_ℚ}
use Rattle.tetri_dictionary.specs.Holders.{bit, words_at}
use Rattle.tetri_dictionary.specs.Mixed.{mixed_row}
use Rattle.tetri_dictionary.proofs.holders.spread_each.Given as goal

abbrev pub invariant-loop-p : goal.invariant-loop-p
invariant-loop-p l = record {
  words : All (λ (v : Vec ℕ). length v.items ≡ length l.own) l.holders;
  before : (p q : ℕ) → bit (words_at l.holders p) q ≡ 0 → bit (words_at l.fn.holders p) q ≡ 0;
  own : (p q : ℕ) → p < l.p → bit (words_at l.holders p) q ≡ 0 → (get_or (mixed_row l.row) (suc p) zero_ℚ ≡ zero_ℚ) ⊎ (bit l.own q ≡ 0);
}

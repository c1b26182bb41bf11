use Rattle.std.proofs.Common.{◌≡◌, ◌<◌, ℕ, length, get_or}
use Prim.Native.Nat.{suc}
use Rattle.std.specs.Global.{Vec}
use Rattle.std.specs.Prelude.{All}
use Rattle.tetri_algebra.specs.RationalRing.{zero_ℚ}
use Rattle.tetri_dictionary.specs.Holders.{bit, words_at}
use Rattle.tetri_dictionary.specs.Mixed.{mixed_row}
use Rattle.tetri_dictionary.proofs.holders.hold_row.Given as goal

abbrev pub invariant-loop-p : goal.invariant-loop-p
invariant-loop-p l = record {
  words : All (λ (v : Vec ℕ). length v.items ≡ l.words) l.holders;
  before : (p q : ℕ) → bit (words_at l.holders p) q ≡ 0 → bit (words_at l.fn.holders p) q ≡ 0;
  own : (p : ℕ) → p < l.p → bit (words_at l.holders p) l.k ≡ 0 → get_or (mixed_row l.row) (suc p) zero_ℚ ≡ zero_ℚ;
}

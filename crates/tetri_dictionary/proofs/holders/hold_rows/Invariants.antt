use Rattle.std.proofs.Common.{◌≡◌, ◌<◌, ◌≤◌, ℕ, length}
use Rattle.std.specs.Global.{Vec}
use Rattle.std.specs.Prelude.{All}
use Rattle.tetri_algebra.specs.RationalRing.{zero_ℚ}
use Rattle.tetri_dictionary.specs.Holders.{bit, words_at, number_in}
use Rattle.tetri_dictionary.specs.Mixed.{mixed_rows}
use Rattle.tetri_dictionary.proofs.holders.hold_rows.Given as goal

abbrev pub invariant-loop-k : goal.invariant-loop-k
invariant-loop-k l = record {
  words : All (λ (v : Vec ℕ). length v.items ≡ l.words) l.holders;
  before : (p q : ℕ) → bit (words_at l.holders p) q ≡ 0 → bit (words_at l.fn.holders p) q ≡ 0;
  own : (p q : ℕ) → p < l.columns → l.first ≤ q → q < l.k → bit (words_at l.holders p) q ≡ 0 → number_in (mixed_rows l.rows) q p ≡ zero_ℚ;
}

use Rattle.std.proofs.Common.{◌≡◌, ◌≢◌, ◌<◌, ℕ, length}
use Rattle.std.specs.Global.{Vec}
use Rattle.std.specs.Prelude.{All}
use Rattle.tetri_ip.specs.Points.{column_at}
use Rattle.tetri_dictionary.specs.Holders.{bit, words_at}
use Rattle.tetri_dictionary.proofs.holders.hold_terms.Given as goal

abbrev pub invariant-loop-t : goal.invariant-loop-t
invariant-loop-t l = record {
  words : All (λ (v : Vec ℕ). length v.items ≡ l.words) l.holders;
  before : (p q : ℕ) → bit (words_at l.holders p) q ≡ 0 → bit (words_at l.fn.holders p) q ≡ 0;
  own : (p t : ℕ) → bit (words_at l.holders p) l.k ≡ 0 → t < l.t → column_at l.terms t ≢ p;
}

use Rattle.std.proofs.Common.{◌≡◌, ◌<◌, ℕ, length}
use Rattle.std.specs.Global.{Vec}
use Rattle.std.specs.Prelude.{All, pos}
use Rattle.tetri_ip.specs.Points.{coefficient, terms_of}
use Rattle.tetri_dictionary.specs.Holders.{bit, words_at}
use Rattle.tetri_dictionary.proofs.holders.hold_program.Given as goal

abbrev pub invariant-loop-k : goal.invariant-loop-k
invariant-loop-k l = record {
  words : All (λ (v : Vec ℕ). length v.items ≡ l.words) l.holders;
  own : (j k : ℕ) → k < l.k → bit (words_at l.holders j) k ≡ 0 → coefficient (terms_of l.p.rows.items k) j ≡ pos 0;
}

-- An expression as its word, which may be refused at its place, and what stands behind it.
use Rattle.std.proofs.Common.{◌≡◌, ℕ, ◌+◌, Bool, true, false, nat_le, if◌then◌else◌, List, length, Result, Ok, Err, refl}
use Rattle.tetri_base.specs.ResultSteps.{◌>>=◌}
use Rattle.tetri_cluster.specs.declared.cluster.NodeText.{NodeText}
use Rattle.tetri_parse.specs.declared.fault.Fault.{Fault}
use Rattle.tetri_parse.specs.declared.fault.Fault.TheVariants.{TooManyLeaves}
use Rattle.tetri_parse.specs.declared.fault.Miss.{Miss}
use Rattle.tetri_parse.specs.declared.token.Word.{Word}
use Rattle.tetri_parse.specs.declared.token.Word.TheVariants as word
use Rattle.tetri_parse.specs.Tokens.{skip_blanks, missed, word_at}
use Rattle.tetri_parse.specs.Grammar.{Rest, leaf_at, body_at}
use Rattle.tetri_parse.specs.Phrase.{Phrase, asked}

-- whether a leaf is one too many
abbrev pub crowded : Word → ℕ → Bool
crowded (word.Leaf linear) taken = nat_le 128 taken
crowded (word.Join j) taken = false
crowded word.Scale taken = false
crowded word.Barrier taken = false

-- a word, unless it is refused at its place
abbrev pub refused_or : Bool → Fault → List ℕ → Word × List ℕ → Result (Word × List ℕ) Miss
refused_or b fault text w = if b then Err (missed fault text) else Ok w

abbrev pub word_or : (Word → ℕ → Bool) → Fault → Rest → Result (Word × List ℕ) Miss
word_or test fault s = word_at (skip_blanks s.1) >>= λ w. refused_or (test w.0 s.0) fault (skip_blanks s.1) w

module _ (cluster : List NodeText) (child : Rest → Result (Phrase × Rest) Miss) where
  -- what stands behind a word that is not refused
  abbrev pub behind_word : Word → ℕ → ℕ → List ℕ → Result (Phrase × Rest) Miss
  behind_word (word.Leaf linear) left taken text = leaf_at cluster linear taken left text >>= λ leaf. Ok (asked leaf.0, (taken + 1, leaf.1))
  behind_word (word.Join j) left taken text = body_at cluster child (word.Join j) left taken text
  behind_word word.Scale left taken text = body_at cluster child word.Scale left taken text
  behind_word word.Barrier left taken text = body_at cluster child word.Barrier left taken text

  pub word_then_body : (r : Result (Word × List ℕ) Miss) (text : List ℕ) (taken : ℕ) → (r >>= λ w. body_at cluster child w.0 (length text) taken w.1) ≡ ((r >>= λ w. refused_or (crowded w.0 taken) TooManyLeaves text w) >>= λ w. behind_word w.0 (length text) taken w.1)
  unfolding body_at
  word_then_body (Err m) text taken = refl
  word_then_body (Ok (word.Leaf linear, rest)) text taken = by_count (nat_le 128 taken)
    where
      by_count : (b : Bool) → (if b then Err (missed TooManyLeaves text) else (leaf_at cluster linear taken (length text) rest >>= λ leaf. Ok (asked leaf.0, (taken + 1, leaf.1)))) ≡ (refused_or b TooManyLeaves text (word.Leaf linear, rest) >>= λ w. behind_word w.0 (length text) taken w.1)
      by_count true = refl
      by_count false = refl
  word_then_body (Ok (word.Join j, rest)) text taken = refl
  word_then_body (Ok (word.Scale, rest)) text taken = refl
  word_then_body (Ok (word.Barrier, rest)) text taken = refl

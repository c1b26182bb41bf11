-- The steps of a leaf and of a part with a number, where some of them are one.
use Rattle.std.proofs.Common.{◌≡◌, ℕ, Bool, List, length, Result, Ok, Err, refl}
use Rattle.tetri_cluster.specs.declared.cluster.NodeText.{NodeText}
use Rattle.tetri_base.specs.ResultSteps.{◌>>=◌}
use Rattle.tetri_parse.specs.declared.fault.Miss.{Miss}
use Rattle.tetri_parse.specs.Tokens.{skip_blanks, mark_at}
use Rattle.tetri_parse.specs.SetText.{set_at}
use Rattle.tetri_parse.specs.LeafNumbers.{last_number_at, leaf_value_at, leaf_numbers_at}
use Rattle.tetri_parse.specs.Grammar.{Rest, leaf_at, part_with_number}
use Rattle.tetri_parse.specs.Phrase.{Phrase}

-- steps in a row, however they are put together
in_a_row : {A B C : Type 0} (r : Result A Miss) (f : A → Result B Miss) (g : B → Result C Miss) → ((r >>= f) >>= g) ≡ (r >>= λ a. f a >>= g)
in_a_row (Ok a) f g = refl
in_a_row (Err m) f g = refl

module _ (cluster : List NodeText) where
  pub leaf_steps : (linear : Bool) (num left : ℕ) (text : List ℕ) → leaf_at cluster linear num left text
      ≡ (mark_at 40 text >>= λ inner. set_at cluster (skip_blanks inner) >>= λ set. leaf_numbers_at set.1 >>= λ n. Ok (record { num = num; linear = linear; nodes = set.0; k = n.0.k; start = n.0.start; dur = n.0.dur; v = n.0.v; left = left; set_left = length (skip_blanks inner); value_left = n.0.value_left }, n.1))
  unfolding leaf_at leaf_numbers_at leaf_value_at
  leaf_steps linear num left text = simp in_a_row

  pub number_steps : (child : Rest → Result (Phrase × Rest) Miss) (taken : ℕ) (text : List ℕ) → part_with_number cluster child taken text
      ≡ (mark_at 40 text >>= λ inner. child (taken, inner) >>= λ part. last_number_at part.1.1 >>= λ n. Ok ((part.0, n.0), (part.1.0, n.1)))
  unfolding part_with_number last_number_at
  number_steps child taken text = simp in_a_row

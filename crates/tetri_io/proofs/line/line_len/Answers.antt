use Rattle.std.proofs.Common.{◌≡◌, ◌+◌, ◌==◌, ℕ, true, false, cond, List, [], ◌∷◌, length, Option, None, Some, refl, sym, ◌∙◌, arith}
use Rattle.std.specs.Prelude.{not, unwrap_or}
use Rattle.std.specs.List.{position_or_len}
use Rattle.std.proofs.lemmas.Bool.{false_from_ne_true}
use Rattle.std.proofs.lemmas.List.Sums.{position_or_len_is}
use Rattle.memchr.specs.Find.{IsFirstByte, is_byte}
use Rattle.tetri_io.specs.Lines.{line_of}
use Rattle.tetri_io.proofs.line.line_len.Goals as goal

line_of_len : (xs : List ℕ) → position_or_len (is_byte 10) xs ≡ length (line_of xs)
line_of_len [] = refl
line_of_len (x ∷ xs) = elim (x == 10) as (λ b. cond (not b) (1 + position_or_len (is_byte 10) xs) 0 ≡ length (cond b [] (x ∷ line_of xs))) [ true ↦ refl | false ↦ omega (arith, line_of_len xs) ]

-- the first line feed ends the line
before_feed : (xs : List ℕ) (found : Option ℕ) → IsFirstByte (is_byte 10) xs found → unwrap_or found (length xs) ≡ length (line_of xs)
before_feed xs None none =
    sym (position_or_len_is (is_byte 10) xs (length xs) 0 (omega arith) (λ k lt. false_from_ne_true _ (none k (omega arith) lt)) (λ lt. absurd (omega arith))) ∙ line_of_len xs
before_feed xs (Some k) (first, here) =
    sym (position_or_len_is (is_byte 10) xs k 0 (omega (arith, first.high)) (λ j lt. false_from_ne_true _ (first.before j (omega arith) lt)) (λ lt. here)) ∙ line_of_len xs

pub returns-clause-value : goal.returns-clause-value
returns-clause-value c = c.unwrap_or.ensures ∙ before_feed c.args.bytes.now c.memchr.result c.memchr.ensures

-- A table that tells of each byte.
use Rattle.std.proofs.Common.{◌≡◌, ◌+◌, ◌<◌, ◌∙◌, ℕ, zero, suc, List, Bool, true, false, [], ◌∷◌, length, get_or, refl, ap, sym, arith}
use Rattle.std.specs.Prelude.{◌&&◌, ◌==◌}
use Rattle.std.proofs.lemmas.Bool.{and_parts, eqb-true}
use Rattle.tetri_base.specs.Lists.{same}
use Rattle.tetri_logs.specs.Times.{digit_or_100}
use Rattle.tetri_logs.specs.Words.{is_separator}
use Rattle.tetri_logs.specs.declared.times.TheConstants.{DIGITS}
use Rattle.tetri_logs.specs.declared.words.TheConstants.{SEPARATORS}

module _ {A : Type 0} (of : ℕ → A) (is_same : A → A → Bool) (alike : (a b : A) → is_same a b ≡ true → a ≡ b) where
  -- whether a table tells of each byte from this one on what it is
  abbrev tells : ℕ → List A → Bool
  tells from [] = true
  tells from (t ∷ ts) = is_same t (of from) && tells (from + 1) ts

  told_from : (from : ℕ) (ts : List A) (k : ℕ) (d : A) → tells from ts ≡ true → k < length ts → get_or ts k d ≡ of (from + k)
  told_from from [] k d e low = absurd (omega arith)
  told_from from (t ∷ ts) zero d e low =
      let at : from + 0 ≡ from = omega arith in
      alike t (of from) (and_parts (is_same t (of from)) (tells (from + 1) ts) e).0 ∙ ap of (sym at)
  told_from from (t ∷ ts) (suc k) d e low =
      let at : from + 1 + k ≡ from + suc k = omega arith in
      told_from (from + 1) ts k d (and_parts (is_same t (of from)) (tells (from + 1) ts) e).1 (omega arith) ∙ ap of at

alike : (a b : Bool) → same a b ≡ true → a ≡ b
alike true b e = sym e
alike false true e = cc
alike false false e = refl

pub separator_told : (b : ℕ) (d : Bool) → b < 256 → get_or SEPARATORS b d ≡ is_separator b
separator_told b d low =
    let at : 0 + b ≡ b = omega arith in
    told_from is_separator same alike 0 SEPARATORS b d refl low ∙ ap is_separator at

pub digit_told : (b d : ℕ) → b < 256 → get_or DIGITS b d ≡ digit_or_100 b
digit_told b d low =
    let at : 0 + b ≡ b = omega arith in
    told_from digit_or_100 (λ x y. x == y) eqb-true 0 DIGITS b d refl low ∙ ap digit_or_100 at

-- Parts of a text, read from halves.
use Rattle.std.proofs.Common.{◌≡◌, ◌≢◌, ℕ, ◌+◌, ◌<◌, length, refl, sym, ap, ◌∙◌, arith, List, [], ◌∷◌, All, eqb, Option, Some, None}
use Rattle.std.proofs.lemmas.Bool.{eq-eqb}
use Rattle.std.proofs.lemmas.List.{length-append}
use Rattle.std.proofs.lemmas.List.Splits.{slice_split_at, slice_split_none}
use Rattle.tetri_base.specs.OptionSteps.{◌>>=◌}
use Rattle.tetri_io.specs.Codec.{Codec, both_in, halves_of}
use Rattle.tetri_io.specs.Words.{AreHalves, parts_at}
use Rattle.tetri_io.proofs.TextLaws.{Avoids, halves_back, no_halves, other}

-- what no byte is, each byte avoids
avoids : (mark : ℕ) (bytes : List ℕ) → All (λ b. b ≢ mark) bytes → Avoids mark bytes
avoids mark bytes h = λ k d l. other _ mark (h k d l)

-- what is made of two parts
module _ {A B X : Type 0} (mark : ℕ) (a : Codec A) (b : Codec B) (make : A × B → Option X) (bytes : List ℕ) where
  pub halves_read : (before behind : List ℕ) → AreHalves mark bytes before behind → (both_in a b (before, behind) >>= make) ≡ (halves_of mark bytes >>= both_in a b >>= make)
  halves_read before behind h = ap (λ (o : Option (List ℕ × List ℕ)). o >>= both_in a b >>= make) (sym (ap (halves_of mark) h.0 ∙ halves_back mark before behind (avoids mark before h.1)))

  pub no_halves_read : All (λ b. b ≢ mark) bytes → None ≡ (halves_of mark bytes >>= both_in a b >>= make)
  no_halves_read h = ap (λ (o : Option (List ℕ × List ℕ)). o >>= both_in a b >>= make) (sym (no_halves mark bytes (avoids mark bytes h)))

-- a text with no such byte has one part
pub one_part : (mark : ℕ) (bytes : List ℕ) → All (λ b. b ≢ mark) bytes → parts_at mark bytes ≡ bytes ∷ []
one_part mark bytes h = slice_split_none (λ b. eqb b mark) bytes (avoids mark bytes h)

-- the first part is what stands before the first such byte
pub first_part : (mark : ℕ) (bytes before behind : List ℕ) → AreHalves mark bytes before behind → parts_at mark bytes ≡ before ∷ parts_at mark behind
first_part mark bytes before behind h =
    ap (parts_at mark) h.0 ∙ slice_split_at (λ b. eqb b mark) before mark behind (avoids mark before h.1) (eq-eqb mark mark refl)

pub shorter_behind : (mark : ℕ) (bytes before behind : List ℕ) → AreHalves mark bytes before behind → length behind < length bytes
shorter_behind mark bytes before behind h = omega (arith, ap length h.0, length-append before (mark ∷ behind))

-- how many bytes are left, and one more where there is something
abbrev pub bytes_left : Option (List ℕ) → ℕ
bytes_left None = 0
bytes_left (Some rest) = length rest + 1

-- Texts that are printed and read back: each form of text is made of smaller ones.
use Rattle.std.specs.Prelude.{ℕ, ◌<◌, ◌==◌, List, [], ◌∷◌, ◌++◌, Option, Some, None, if◌then◌else◌, bytes_eq, decimal}
use Rattle.tetri_base.specs.OptionSteps.{◌>>=◌}
use Rattle.tetri_io.specs.Numbers.{number_below}

-- how things are printed, how they are read, and which ones are printed so
pub record Codec (A : Type 0) : Type 1 where
  pub text : A → List ℕ
  pub read : List ℕ → Option A
  pub IsSuch : A → Type 0

-- ---- words
-- whole numbers below a limit
abbrev pub numbers : ℕ → Codec ℕ
numbers limit = record { text = decimal; read = number_below limit; IsSuch = λ n. n < limit }

-- the first of some things that this is the text of
abbrev pub first_of_text : {A : Type 0} → (A → List ℕ) → List A → List ℕ → Option A
first_of_text text [] word = None
first_of_text text (a ∷ others) word = if bytes_eq word (text a) then Some a else first_of_text text others word

-- some things, each with a word of its own
abbrev pub among : {A : Type 0} → (A → List ℕ) → List A → Codec A
among text all = record { text = text; read = first_of_text text all; IsSuch = λ a. Unit {0} }

-- what stands before the first byte of this kind, and what stands behind it
unfoldable pub halves_of : ℕ → List ℕ → Option (List ℕ × List ℕ)
halves_of mark [] = None
halves_of mark (b ∷ bs) = if b == mark then Some ([], bs) else (halves_of mark bs >>= λ h. Some (b ∷ h.0, h.1))

abbrev pub both_in : {A B : Type 0} → Codec A → Codec B → List ℕ × List ℕ → Option (A × B)
both_in a b h = a.read h.0 >>= λ x. b.read h.1 >>= λ y. Some (x, y)

-- two things with a byte between
abbrev pub pair : {A B : Type 0} → ℕ → Codec A → Codec B → Codec (A × B)
pair mark a b = record {
  text = λ p. a.text p.0 ++ mark ∷ b.text p.1;
  read = λ word. halves_of mark word >>= both_in a b;
  IsSuch = λ p. a.IsSuch p.0 × b.IsSuch p.1;
}

-- what is made of other things, where it can be
abbrev pub image : {A B : Type 0} → (A → Option B) → (B → A) → (B → Type 0) → Codec A → Codec B
image to from IsSuch c = record { text = λ b. c.text (from b); read = λ word. c.read word >>= to; IsSuch = IsSuch }

-- the same things under another name
abbrev pub renamed : {A B : Type 0} → (A → B) → (B → A) → Codec A → Codec B
renamed to from c = image (λ a. Some (to a)) from (λ b. c.IsSuch (from b)) c

-- ---- lists of words: something made of one, two or four of them
abbrev pub one_in : {A X : Type 0} → (A → X) → Codec A → List (List ℕ) → Option X
one_in make a (u ∷ []) = a.read u >>= λ x. Some (make x)
one_in make a words = None

abbrev pub two_in : {A B X : Type 0} → (A → B → X) → Codec A → Codec B → List (List ℕ) → Option X
two_in make a b (u ∷ v ∷ []) = a.read u >>= λ x. b.read v >>= λ y. Some (make x y)
two_in make a b words = None

abbrev pub four_in : {A B C D X : Type 0} → (A → B → C → D → X) → Codec A → Codec B → Codec C → Codec D → List (List ℕ) → Option X
four_in make a b c d (t ∷ u ∷ v ∷ w ∷ []) = a.read t >>= λ x. b.read u >>= λ y. c.read v >>= λ z. d.read w >>= λ q. Some (make x y z q)
four_in make a b c d words = None

-- something by a tag, each with its reading of the words behind it
abbrev pub by_tag : {X : Type 0} → List (List ℕ × (List (List ℕ) → Option X)) → List ℕ → List (List ℕ) → Option X
by_tag [] tag words = None
by_tag (form ∷ forms) tag words = if bytes_eq tag form.0 then form.1 words else by_tag forms tag words

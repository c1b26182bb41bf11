-- A step of reading leaves a rest of its text, or ends at a byte of it that is no blank, or at its end.
use Rattle.std.proofs.Common.{◌≡◌, ℕ, ◌≤◌, List, [], ◌∷◌, ◌++◌, length, take, drop, Result, Ok, Err, refl, sym, ap, ◌∙◌, arith, append_assoc, append-nil, length-append}
use Rattle.std.proofs.lemmas.List.{take-append-drop}
use Rattle.tetri_base.specs.ResultSteps.{◌>>=◌}
use Rattle.tetri_parse.specs.declared.fault.Miss.{Miss}
use Rattle.tetri_parse.specs.Tokens.{skip_blanks, missing}

-- the text that is left in what a step gives, and when two of them say the same
pub record Kind (Y : Type 0) : Type 1 where
  pub text : Y → List ℕ
  pub same : Y → Y → Type 0
  pub itself : (y : Y) → same y y

abbrev pub plain : Kind (List ℕ)
plain = record { text = λ t. t; same = λ t u. Unit {0}; itself = λ t. tt }

-- with a value of any kind
abbrev pub valued : {A Y : Type 0} → Kind Y → Kind (A × Y)
valued k = record { text = λ y. k.text y.1; same = λ y z. k.same y.1 z.1; itself = λ y. k.itself y.1 }

-- with the same value
abbrev pub equal : {A Y : Type 0} → Kind Y → Kind (A × Y)
equal k = record { text = λ y. k.text y.1; same = λ y z. (y.0 ≡ z.0) × k.same y.1 z.1; itself = λ y. (refl, k.itself y.1) }

pub record Behind (text rest : List ℕ) : Type 0 where
  pub front : List ℕ
  pub whole : text ≡ front ++ rest

pub record Place (text : List ℕ) (left : ℕ) : Type 0 where
  pub front : List ℕ
  pub rest : List ℕ
  pub whole : text ≡ front ++ rest
  pub size : length rest ≡ left
  pub still : skip_blanks rest ≡ rest

abbrev pub Ahead : {Y : Type 0} → Kind Y → List ℕ → Result Y Miss → Type 0
Ahead k text (Ok y) = Behind text (k.text y)
Ahead k text (Err m) = Place text m.left

pub all_behind : (text : List ℕ) → Behind text text
all_behind text = record { front = []; whole = refl }

pub byte_behind : (b : ℕ) (bs : List ℕ) → Behind (b ∷ bs) bs
byte_behind b bs = record { front = b ∷ []; whole = refl }

pub drop_behind : (n : ℕ) (text : List ℕ) → Behind text (drop n text)
drop_behind n text = record { front = take n text; whole = sym (take-append-drop n text) }

pub none_behind : (text : List ℕ) → Behind text []
none_behind text = record { front = text; whole = sym (append-nil text) }

pub at_first : (text : List ℕ) → skip_blanks text ≡ text → Place text (length text)
at_first text still = record { front = []; rest = text; whole = refl; size = refl; still = still }

pub at_end : (text : List ℕ) → Place text 0
at_end text = record { front = text; rest = []; whole = sym (append-nil text); size = refl; still = refl }

pub missing_first : (text : List ℕ) → skip_blanks text ≡ text → Place text (missing text).left
missing_first [] still = at_end []
missing_first (b ∷ bs) still = at_first (b ∷ bs) still

module _ {Y : Type 0} (k : Kind Y) where
  pub further : (text rest : List ℕ) (r : Result Y Miss) → Behind text rest → Ahead k rest r → Ahead k text r
  further text rest (Ok y) b a = record { front = b.front ++ a.front; whole = b.whole ∙ ap (λ t. b.front ++ t) a.whole ∙ sym (append_assoc b.front a.front (k.text y)) }
  further text rest (Err m) b a = record { front = b.front ++ a.front; rest = a.rest; whole = b.whole ∙ ap (λ t. b.front ++ t) a.whole ∙ sym (append_assoc b.front a.front a.rest); size = a.size; still = a.still }

  -- how many bytes are left at the end of a step
  abbrev pub reach : Result Y Miss → ℕ
  reach (Ok y) = length (k.text y)
  reach (Err m) = m.left

  pub reach_le : (text : List ℕ) (r : Result Y Miss) → Ahead k text r → reach r ≤ length text
  reach_le text (Ok y) a = omega (arith, ap length a.whole, length-append a.front (k.text y))
  reach_le text (Err m) a = omega (arith, ap length a.whole, length-append a.front a.rest, a.size)

  pub ahead_bind : {X : Type 0} (j : Kind X) (text : List ℕ) (r : Result X Miss) (g : X → Result Y Miss) → Ahead j text r → ((x : X) → Ahead k (j.text x) (g x)) → Ahead k text (r >>= g)
  ahead_bind j text (Ok x) g a f = further text (j.text x) (g x) a (f x)
  ahead_bind j text (Err m) g a f = a

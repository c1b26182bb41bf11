-- A table of bits, 64 to a word, in which one bit is set.
use Rattle.std.proofs.Common.{◌≡◌, ◌≢◌, ◌∙◌, ◌<◌, ◌≤◌, ◌-◌, ◌*◌, ◌/◌, ◌%◌, ◌^◌, ℕ, List, length, get_or, set, bit_or, inl, inr, ap, arith}
use Rattle.std.specs.Int.{bit_at, w64}
use Rattle.std.proofs.lemmas.Bool.{cases_eq}
use Rattle.std.proofs.lemmas.List.{get_or_past, get_or_read, get_or-set_same, get_or-set_other}
use Rattle.std.proofs.lemmas.Nat.Bits.{bit_at_ones, bit_at_set_same, bit_at_set_other}

-- the bit at a place, which is 1 past the last word
abbrev pub bit_of : List ℕ → ℕ → ℕ
bit_of words place = bit_at (get_or words (place / 64) (2 ^ 64 - 1)) (place % 64)

-- the words after a word has got the bit of a place
abbrev pub with_bit : List ℕ → ℕ → ℕ → List ℕ
with_bit words word place = set words (place / 64) (bit_or word (1 * 2 ^ (place % 64) % 2 ^ 64))

pub bit_past : (words : List ℕ) (place : ℕ) → length words ≤ place / 64 → bit_of words place ≡ 1
bit_past words place past =
    ap (λ w. bit_at w (place % 64)) (get_or_past words (place / 64) (2 ^ 64 - 1) past) ∙ bit_at_ones 64 (place % 64) (omega arith)

pub bit_set : (words : List ℕ) (word place : ℕ) → place / 64 < length words → bit_of (with_bit words word place) place ≡ 1
bit_set words word place within =
    ap (λ w. bit_at w (place % 64)) (get_or-set_same words (place / 64) _ (2 ^ 64 - 1) within)
    ∙ bit_at_set_same w64 word (place % 64) (omega arith)

-- each other bit stays, where the word was the one of the place
pub bit_kept : (words : List ℕ) (word place other : ℕ) → place / 64 < length words → word ≡ get_or words (place / 64) word → other ≢ place → bit_of (with_bit words word place) other ≡ bit_of words other
bit_kept words word place other within read apart =
    elim (cases_eq (other / 64) (place / 64)) [
      | inl same ↦
          let bits : other % 64 ≢ place % 64 = λ e. apart (omega arith) in
          rw same (ap (λ w. bit_at w (other % 64)) (get_or-set_same words (place / 64) _ (2 ^ 64 - 1) within)
          ∙ bit_at_set_other w64 word (place % 64) (omega arith) (other % 64) bits
          ∙ ap (λ w. bit_at w (other % 64)) (get_or_read words (place / 64) word within read (2 ^ 64 - 1)))
      | inr elsewhere ↦ ap (λ w. bit_at w (other % 64)) (get_or-set_other words (place / 64) (other / 64) _ (2 ^ 64 - 1) elsewhere)
    ]

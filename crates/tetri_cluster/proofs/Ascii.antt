-- Names are text.
use Rattle.std.proofs.Common.{◌≡◌, ℕ, zero, suc, ◌<◌, ◌&&◌, Bool, true, false, List, [], ◌∷◌, nat_le, length, get_or, refl, sym, arith}
use Rattle.std.specs.List.{list_all}
use Rattle.std.specs.Str.{IsAscii, IsUtf8}
use Rattle.std.proofs.lemmas.Str.{IsUtf8-from_ascii}
use Rattle.std.proofs.lemmas.Bool.{true≢false}
use Rattle.std.proofs.lemmas.Bool.Decides.{nat_tests}
use Rattle.tetri_cluster.specs.Names.{is_name_byte, is_name}

name_byte_small : (b : ℕ) → is_name_byte b ≡ true → b < 128
name_byte_small b h = grind (arith, nat_tests)

all_small : (bs : List ℕ) → list_all is_name_byte bs ≡ true → IsAscii bs
all_small [] h = λ i. omega arith
all_small (b ∷ bs) h = by_first (is_name_byte b) refl h (all_small bs)
  where
    by_first : (t : Bool) → is_name_byte b ≡ t → (t && list_all is_name_byte bs) ≡ true → (list_all is_name_byte bs ≡ true → IsAscii bs) → (i : ℕ) → get_or (b ∷ bs) i 0 < 128
    by_first true e g rest zero = name_byte_small b e
    by_first true e g rest (suc i) = rest g i
    by_first false e g rest i = absurd (true≢false (sym g))

pub name_is_text : (bs : List ℕ) → is_name bs ≡ true → IsUtf8 bs
name_is_text bs h = IsUtf8-from_ascii bs (all_small bs (last (nat_le 1 (length bs)) (nat_le (length bs) 64) (list_all is_name_byte bs) h))
  where
    last : (a b c : Bool) → (a && b && c) ≡ true → c ≡ true
    last true true c h = h
    last true false c h = absurd (true≢false (sym h))
    last false b c h = absurd (true≢false (sym h))

-- bytes that are no text are no name
pub not_text_no_name : (bs : List ℕ) → (IsUtf8 bs → ⊥) → is_name bs ≡ false
not_text_no_name bs h = by_test (is_name bs) refl
  where
    by_test : (t : Bool) → is_name bs ≡ t → t ≡ false
    by_test true e = absurd (h (name_is_text bs e))
    by_test false e = refl

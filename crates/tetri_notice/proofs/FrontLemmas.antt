-- The front of a text: its digits, what is plain in it, and where it may be cut.
use Rattle.std.proofs.Common.{◌≡◌, ◌≢◌, ℕ, suc, ◌+◌, ◌-◌, ◌^◌, ◌<◌, ◌≤◌, ◌==◌, Bool, true, false, cond, List, [], ◌∷◌, ◌++◌, length, get_or, min, take, drop, take-append-drop, length-take-le, refl, sym, ap, ◌∙◌, subst, inl, inr, arith}
use Rattle.std.specs.Char.{is_ascii_digit}
use Rattle.std.specs.Int.{IsInRange}
use Rattle.std.specs.List.{list_all, prefix_len}
use Rattle.std.specs.Str.{IsUtf8, IsCharBoundary}
use Rattle.std.specs.Str.Parse.{digits_value}
use Rattle.std.proofs.lemmas.Bool.{and_from, and_parts, cases_lt, eqb-true}
use Rattle.std.proofs.lemmas.Bool.Decides.{nat_tests}
use Rattle.std.proofs.lemmas.Fmt.{decimal-digits_value}
use Rattle.std.proofs.lemmas.List.{get_or-take, length-take, take_all}
use Rattle.std.proofs.lemmas.List.Sums.{prefix_len-le-length, prefix_len_passes, prefix_len_stops}
use Rattle.std.proofs.lemmas.Str.{IsCharBoundary-after_ascii, IsCharBoundary-before_ascii, IsCharBoundary-end, IsCharBoundary-from_take}
use Rattle.std.specs.Prelude.{◌&&◌, decimal}
use Rattle.std.proofs.Math.Seq.{drop-cons}
use Rattle.json.specs.Run.{is_plain}
use Rattle.tetri_io.proofs.TextLaws.{AreDigits, few_digits, own}

-- a text that begins with another may be cut behind it
pub cut_behind : (text front : List ℕ) → IsUtf8 text → IsUtf8 front → take (length front) text ≡ front → IsCharBoundary text (length front)
cut_behind text front whole part is =
    let fits : length front ≤ length text = omega (arith, ap length is, length-take (length front) text) in
    IsCharBoundary-from_take text (length front) whole fits (rw is part)

-- ---- what is plain

front_passes : (p : ℕ → Bool) (xs : List ℕ) → list_all p (take (prefix_len p xs) xs) ≡ true
front_passes p [] = refl
front_passes p (x ∷ xs) = by_test (p x) refl (front_passes p xs)
  where
    by_test : (b : Bool) → p x ≡ b → list_all p (take (prefix_len p xs) xs) ≡ true → list_all p (take (cond b (1 + prefix_len p xs) 0) (x ∷ xs)) ≡ true
    by_test true e rest = let next : 1 + prefix_len p xs ≡ suc (prefix_len p xs) = omega arith in rw next (and_from (p x) (list_all p (take (prefix_len p xs) xs)) e rest)
    by_test false e rest = refl

pub plain_front : (text : List ℕ) → list_all is_plain (take (prefix_len is_plain text) text) ≡ true
plain_front text = front_passes is_plain text

-- what is not plain is no part of a longer character
stop_below : (x : ℕ) → is_plain x ≡ false → x < 128
stop_below x e = grind (arith, nat_tests)

pub cut_behind_plain : (text : List ℕ) → IsCharBoundary text (prefix_len is_plain text)
cut_behind_plain text =
    let n = prefix_len is_plain text in
    elim (cases_lt n (length text)) [
      | inl inside ↦ IsCharBoundary-before_ascii text n inside (stop_below _ (prefix_len_stops is_plain text 0 inside))
      | inr all ↦ let same : n ≡ length text = omega (arith, prefix_len-le-length is_plain text) in subst (IsCharBoundary text) (sym same) (IsCharBoundary-end text)
    ]

-- ---- digits

digit_below : (c : ℕ) → is_ascii_digit c ≡ true → c < 128
digit_below c is = let range : IsInRange 48 57 c = grind (arith, nat_tests) in omega arith

pub cut_behind_digits : (text : List ℕ) (n : ℕ) → IsUtf8 text → n ≡ min (prefix_len is_ascii_digit text) 18 → 0 < n → IsCharBoundary text n
cut_behind_digits text n whole count some =
    let last : n - 1 + 1 ≡ n = omega arith in
    let digit : is_ascii_digit (get_or text (n - 1) 0) ≡ true = prefix_len_passes is_ascii_digit text (n - 1) 0 (omega (arith, count)) in
    subst (IsCharBoundary text) last (IsCharBoundary-after_ascii text (n - 1) whole (omega (arith, count, prefix_len-le-length is_ascii_digit text)) (digit_below _ digit))

one_digit : (n : ℕ) → 0 < n → (1 < n → ⊥) → n ≡ 1
one_digit n some no_more = elim (cases_lt 1 n) [ inl more ↦ absurd (no_more more) | inr one ↦ omega arith ]

-- digits that begin with no zero, or are one, are the number that they say
pub whole_is : (text rest : List ℕ) (n number : ℕ) → n ≡ min (prefix_len is_ascii_digit text) 18 → AreDigits (take n text) → number ≡ digits_value 10 (take n text) → 0 < n → (1 < n → get_or text 0 0 ≢ 48) → rest ≡ drop n text
    → (number < 10 ^ 18) × (text ≡ decimal number ++ rest)
whole_is text rest n number count digits value some first cut =
    let within : n ≤ length text = omega (arith, count, prefix_len-le-length is_ascii_digit text) in
    let size : length (take n text) ≡ n = length-take-le n text within in
    let small : digits_value 10 (take n text) < 10 ^ 18 = few_digits (take n text) 18 digits (omega (arith, size, count)) in
    let alone : get_or (take n text) 0 0 ≡ 48 → length (take n text) ≡ 1 = λ zero. size ∙ one_digit n some (λ more. first more (sym (get_or-take n text 0 0 some) ∙ zero)) in
    let same : decimal (digits_value 10 (take n text)) ≡ take n text = decimal-digits_value own (take n text) digits (omega (arith, size)) alone (omega (arith, small)) in
    (omega (arith, value, small), sym (take-append-drop n text) ∙ (λ i. sym same i ++ sym cut i) ∙ ap (λ v. decimal v ++ rest) (sym value))

-- the number of less than 18 digits, and one digit more
pub below_front : (text : List ℕ) (i number : ℕ) → AreDigits (take i text) → number ≡ digits_value 10 (take i text) → i < 18 → number < 10 ^ 17
below_front text i number digits value few = omega (arith, value, few_digits (take i text) 17 digits (omega (arith, length-take i text)))

-- ---- a name in quotes, and a colon

named_tail : (xs name rest : List ℕ) → length name + 2 ≤ length xs → take (length name) xs ≡ name → get_or xs (length name) 0 ≡ 34 → get_or xs (suc (length name)) 0 ≡ 58 → rest ≡ drop (suc (suc (length name))) xs → xs ≡ name ++ 34 ∷ 58 ∷ rest
named_tail xs name rest long named quote colon cut =
    let n = length name in
    let behind : drop n xs ≡ 34 ∷ 58 ∷ rest =
    drop-cons xs n 0 (omega arith) ∙ ap (λ l. get_or xs n 0 ∷ l) (drop-cons xs (suc n) 0 (omega arith)) ∙ (λ i. quote i ∷ colon i ∷ sym cut i) in
    sym (take-append-drop n xs) ∙ (λ i. named i ++ behind i)

pub named_is : (text name rest : List ℕ) (named : Bool) → length name + 3 ≤ length text → ((((get_or text 0 0 == 34) && named) && (get_or text (length name + 3 - 2) 0 == 34)) && (get_or text (length name + 3 - 1) 0 == 58)) ≡ true
    → (named ≡ true → take (length name) (take (length text - 1) (drop 1 text)) ≡ name) → rest ≡ drop (length name + 3) text → text ≡ 34 ∷ (name ++ 34 ∷ 58 ∷ rest)
named_is [] name rest named long tests part cut = absurd (omega arith)
named_is (x ∷ xs) name rest named long tests part cut =
    let n = length name in
    let opens : Bool = x == 34 in
    let closes : Bool = get_or (x ∷ xs) (n + 3 - 2) 0 == 34 in
    let ends : Bool = get_or (x ∷ xs) (n + 3 - 1) 0 == 58 in
    let upto_colon = and_parts ((opens && named) && closes) ends tests in
    let upto_quote = and_parts (opens && named) closes upto_colon.0 in
    let upto_name = and_parts opens named upto_quote.0 in
    let all : take (length (x ∷ xs) - 1) xs ≡ xs = take_all (length (x ∷ xs) - 1) xs (omega arith) in
    let second : n + 3 - 2 ≡ suc n = omega arith in
    let third : n + 3 - 1 ≡ suc (suc n) = omega arith in
    let end : n + 3 ≡ suc (suc (suc n)) = omega arith in
    let quote : get_or xs n 0 ≡ 34 = rw second at (eqb-true (get_or (x ∷ xs) (n + 3 - 2) 0) 34 upto_quote.1) in
    let colon : get_or xs (suc n) 0 ≡ 58 = rw third at (eqb-true (get_or (x ∷ xs) (n + 3 - 1) 0) 58 upto_colon.1) in
    let tail = named_tail xs name rest (omega arith) (rw all at (part upto_name.1)) quote colon (rw end at cut) in
    let first : x ≡ 34 = eqb-true x 34 upto_name.0 in
    λ i. first i ∷ tail i

-- a text may be cut behind a byte that is no part of a longer character
pub cut_behind_colon : (text : List ℕ) (before : Bool) (n : ℕ) → IsUtf8 text → n + 3 ≤ length text → (before && (get_or text (n + 3 - 1) 0 == 58)) ≡ true → IsCharBoundary text (n + 3)
cut_behind_colon text before n whole long tests =
    let colon : get_or text (n + 3 - 1) 0 ≡ 58 = eqb-true (get_or text (n + 3 - 1) 0) 58 (and_parts before (get_or text (n + 3 - 1) 0 == 58) tests).1 in
    let last : n + 3 - 1 + 1 ≡ n + 3 = omega arith in
    subst (IsCharBoundary text) last (IsCharBoundary-after_ascii text (n + 3 - 1) whole (omega arith) (omega arith))

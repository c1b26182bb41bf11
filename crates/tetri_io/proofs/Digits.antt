-- Digits, one after another.
use Rattle.std.proofs.Common.{◌≡◌, ℕ, ◌+◌, ◌-◌, ◌*◌, ◌^◌, ◌<◌, ◌≤◌, sym, ap, ◌∙◌, arith, rules, List, [], ◌∷◌, length, get_or, take, true, false, eqb}
use Rattle.std.specs.Prelude.{◌&&◌}
use Rattle.std.specs.Char.{is_ascii_digit}
use Rattle.std.specs.Int.{IsInRange}
use Rattle.std.specs.List.{list_all}
use Rattle.std.specs.Str.Parse.{digits_value}
use Rattle.std.proofs.lemmas.Bool.{false≢true}
use Rattle.std.proofs.lemmas.Bool.Decides.{nat_tests}
use Rattle.std.proofs.lemmas.Int.Digits.{digits_value_more}
use Rattle.std.proofs.lemmas.List.{length-take-le}
use Rattle.std.proofs.lemmas.List.Folds.{list_all_at, list_all_more}
use Rattle.std.proofs.lemmas.Str.{digit_value_digit}
use Rattle.std.proofs.lemmas.Str.Parse.{IsNumeralModel, numerals_by_value, digits_value_short, digits_value-take-le}

-- each of these is a digit
abbrev pub AreDigits : List ℕ → Type 0
AreDigits ds = list_all is_ascii_digit ds ≡ true

pub own : IsNumeralModel AreDigits (digits_value 10)
own = numerals_by_value _ (search rules)

-- one digit more
pub digits_more : (ds : List ℕ) (i : ℕ) → i < length ds → AreDigits (take i ds) → is_ascii_digit (get_or ds i 0) ≡ true → AreDigits (take (i + 1) ds)
digits_more ds i lt all here = list_all_more is_ascii_digit ds i 0 lt ∙ ap (λ b. b && is_ascii_digit (get_or ds i 0)) all ∙ here

pub value_more : (ds : List ℕ) (i : ℕ) → i < length ds → is_ascii_digit (get_or ds i 0) ≡ true → digits_value 10 (take (i + 1) ds) ≡ digits_value 10 (take i ds) * 10 + (get_or ds i 0 - 48)
value_more ds i lt here =
    let range : IsInRange 48 57 (get_or ds i 0) = grind (arith, nat_tests) in
    omega (arith, digits_value_more 10 ds i lt, digit_value_digit (get_or ds i 0) range)

pub not_digits : (ds : List ℕ) (i : ℕ) → i < length ds → is_ascii_digit (get_or ds i 0) ≡ false → list_all is_ascii_digit ds ≡ false
not_digits ds i lt other = list_all_at is_ascii_digit ds i 0 lt other

-- a front of the digits is no greater number
pub front_below : (ds : List ℕ) (i : ℕ) → digits_value 10 (take i ds) ≤ digits_value 10 ds
front_below ds i = digits_value-take-le 10 ds i (omega arith)

pub few_digits : (ds : List ℕ) (k : ℕ) → AreDigits ds → length ds ≤ k → digits_value 10 ds < 10 ^ k
few_digits ds k all short = digits_value_short own ds k all short

-- ---- the number so far, and one digit more
pub digit_below : (c : ℕ) → is_ascii_digit c ≡ true → c - 48 < 10
digit_below c is = let range : IsInRange 48 57 c = grind (arith, nat_tests) in omega arith

pub short_front : (ds : List ℕ) (i n : ℕ) → i < length ds → length ds ≤ 18 → AreDigits (take i ds) → n ≡ digits_value 10 (take i ds) → n < 10 ^ 17
short_front ds i n lt short all e = omega (arith, e, few_digits (take i ds) 17 all (omega (arith, length-take-le i ds)))

pub next_front : (ds : List ℕ) (i n d m : ℕ) → i < length ds → AreDigits (take i ds) → n ≡ digits_value 10 (take i ds) → (is_ascii_digit (get_or ds i 0) ≡ true) × (d ≡ get_or ds i 0 - 48) → m ≡ n * 10 + d → AreDigits (take (i + 1) ds) × (m ≡ digits_value 10 (take (i + 1) ds))
next_front ds i n d m lt all e digit sum = (digits_more ds i lt all digit.0, omega (arith, value_more ds i lt digit.0, e, digit.1, sum))

-- digits of whose front the number, and one digit more, is past a limit
pub past_front : (ds : List ℕ) (i n d limit : ℕ) → i < length ds → n ≡ digits_value 10 (take i ds) → (is_ascii_digit (get_or ds i 0) ≡ true) × (d ≡ get_or ds i 0 - 48) → limit ≤ n * 10 + d → limit ≤ digits_value 10 ds
past_front ds i n d limit lt e digit past = omega (arith, value_more ds i lt digit.0, front_below ds (i + 1), e, digit.1, past)

pub some_bytes : (ds : List ℕ) → eqb (length ds) 0 ≡ false → 0 < length ds
some_bytes [] e = absurd (false≢true (sym e))
some_bytes (d ∷ ds) e = omega arith

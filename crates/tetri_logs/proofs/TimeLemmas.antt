-- Two and four digits of a text.
use Rattle.std.proofs.Common.{◌≡◌, ℕ, ◌+◌, ◌*◌, ◌-◌, ◌<◌, ◌≤◌, true, false, List, [], ◌∷◌, ◌++◌, get_or, length, take, drop, Some, None, refl, sym, ap, ◌∙◌, arith, lt-ltb}
use Rattle.std.specs.Prelude.{Bool, Option}
use Rattle.std.specs.Char.{digit_value, is_ascii_digit}
use Rattle.std.specs.Int.{IsInRange}
use Rattle.std.specs.List.{slice_range}
use Rattle.std.specs.Str.Parse.{digits_value}
use Rattle.std.proofs.lemmas.Bool.{le-ltb}
use Rattle.std.proofs.lemmas.Bool.Decides.{nat_tests}
use Rattle.std.proofs.lemmas.Str.{digit_value_digit}
use Rattle.tetri_io.specs.Numbers.{digits_below}
use Rattle.tetri_logs.proofs.WordLemmas.{range_more}
use Rattle.tetri_logs.specs.Times.{below_100, digit_or_100, part}

two_bytes : (xs : List ℕ) (from : ℕ) → from + 2 ≤ length xs → slice_range xs from (from + 2) ≡ get_or xs from 0 ∷ get_or xs (from + 1) 0 ∷ []
two_bytes xs from inside =
    let none : from - from ≡ 0 = omega arith in
    let first = range_more xs from from (omega arith) (omega arith) ∙ ap (λ n. take n (drop from xs) ++ get_or xs from 0 ∷ []) none in
    let second = range_more xs from (from + 1) (omega arith) (omega arith) in
    let two : from + 2 ≡ from + 1 + 1 = omega arith in
    ap (slice_range xs from) two ∙ second ∙ ap (λ l. l ++ get_or xs (from + 1) 0 ∷ []) first

value_of : (x : ℕ) → is_ascii_digit x ≡ true → (digit_value x ≡ x - 48) × (x - 48 < 10)
value_of x is = let range : IsInRange 48 57 x = grind (arith, nat_tests) in (omega (arith, digit_value_digit x range), omega arith)

other_first : (x y : ℕ) → is_ascii_digit x ≡ false → digits_below 10000 (x ∷ y ∷ []) ≡ None
other_first x y e = rw e refl

other_second : (x y : ℕ) (b : Bool) → is_ascii_digit x ≡ b → is_ascii_digit y ≡ false → digits_below 10000 (x ∷ y ∷ []) ≡ None
other_second x y true a e = rw (a, e) refl
other_second x y false a e = rw a refl

both_digits : (x y : ℕ) → is_ascii_digit x ≡ true → is_ascii_digit y ≡ true → digits_below 10000 (x ∷ y ∷ []) ≡ Some ((x - 48) * 10 + (y - 48))
both_digits x y a b =
    let tens = value_of x a in
    let ones = value_of y b in
    let value : digits_value 10 (x ∷ y ∷ []) ≡ (x - 48) * 10 + (y - 48) = omega (arith, tens.0, ones.0) in
    let small : (x - 48) * 10 + (y - 48) < 10000 = omega (arith, tens.1, ones.1) in
    rw (a, b, value, lt-ltb _ _ small) refl

pub is_pair : (xs : List ℕ) (from : ℕ) → from + 2 ≤ length xs → is_ascii_digit (get_or xs from 0) ≡ true → is_ascii_digit (get_or xs (from + 1) 0) ≡ true
    → part xs from (from + 2) ≡ Some ((get_or xs from 0 - 48) * 10 + (get_or xs (from + 1) 0 - 48))
is_pair xs from inside a b = ap (digits_below 10000) (two_bytes xs from inside) ∙ both_digits (get_or xs from 0) (get_or xs (from + 1) 0) a b

pub no_first : (xs : List ℕ) (from : ℕ) → from + 2 ≤ length xs → is_ascii_digit (get_or xs from 0) ≡ false → part xs from (from + 2) ≡ None
no_first xs from inside a = ap (digits_below 10000) (two_bytes xs from inside) ∙ other_first (get_or xs from 0) (get_or xs (from + 1) 0) a

pub no_second : (xs : List ℕ) (from : ℕ) → from + 2 ≤ length xs → is_ascii_digit (get_or xs (from + 1) 0) ≡ false → part xs from (from + 2) ≡ None
no_second xs from inside b = ap (digits_below 10000) (two_bytes xs from inside) ∙ other_second (get_or xs from 0) (get_or xs (from + 1) 0) (is_ascii_digit (get_or xs from 0)) refl b

-- the same where what is no digit counts as 100
by_worth : (x y : ℕ) (p q : Bool) → is_ascii_digit x ≡ p → is_ascii_digit y ≡ q → below_100 (digit_or_100 x * 10 + digit_or_100 y) ≡ digits_below 10000 (x ∷ y ∷ [])
by_worth x y true true a b =
    let small : (x - 48) * 10 + (y - 48) < 100 = omega (arith, (value_of x a).1, (value_of y b).1) in
    let known : below_100 (digit_or_100 x * 10 + digit_or_100 y) ≡ Some ((x - 48) * 10 + (y - 48)) = rw (a, b, lt-ltb _ _ small) refl in
    known ∙ sym (both_digits x y a b)
by_worth x y false q a b =
    let large : 100 ≤ 100 * 10 + digit_or_100 y = omega arith in
    let none : below_100 (digit_or_100 x * 10 + digit_or_100 y) ≡ None = rw (a, le-ltb _ _ large) refl in
    none ∙ sym (other_first x y a)
by_worth x y true false a b =
    let large : 100 ≤ digit_or_100 x * 10 + 100 = omega arith in
    let none : below_100 (digit_or_100 x * 10 + digit_or_100 y) ≡ None = rw (b, le-ltb _ _ large) refl in
    none ∙ sym (other_second x y true a b)

pub two_or_more : (xs : List ℕ) (from : ℕ) → from + 2 ≤ length xs → below_100 (digit_or_100 (get_or xs from 0) * 10 + digit_or_100 (get_or xs (from + 1) 0)) ≡ part xs from (from + 2)
two_or_more xs from inside =
    let x = get_or xs from 0 in
    let y = get_or xs (from + 1) 0 in
    by_worth x y (is_ascii_digit x) (is_ascii_digit y) refl refl ∙ sym (ap (digits_below 10000) (two_bytes xs from inside))

-- what two numbers of two digits are together
abbrev joined : Option ℕ → Option ℕ → Option ℕ
joined None year = None
joined (Some century) None = None
joined (Some century) (Some year) = Some (century * 100 + year)

four_bytes : (xs : List ℕ) → 4 ≤ length xs → slice_range xs 0 4 ≡ get_or xs 0 0 ∷ get_or xs 1 0 ∷ get_or xs 2 0 ∷ get_or xs 3 0 ∷ []
four_bytes xs inside =
    let third = range_more xs 0 2 (omega arith) (omega arith) in
    let fourth = range_more xs 0 3 (omega arith) (omega arith) in
    fourth ∙ ap (λ l. l ++ get_or xs 3 0 ∷ []) (third ∙ ap (λ l. l ++ get_or xs 2 0 ∷ []) (two_bytes xs 0 (omega arith)))

all_digits : (x y z w : ℕ) → is_ascii_digit x ≡ true → is_ascii_digit y ≡ true → is_ascii_digit z ≡ true → is_ascii_digit w ≡ true
    → digits_below 10000 (x ∷ y ∷ z ∷ w ∷ []) ≡ Some (((x - 48) * 10 + (y - 48)) * 100 + ((z - 48) * 10 + (w - 48)))
all_digits x y z w a b c d =
    let first = value_of x a in
    let second = value_of y b in
    let third = value_of z c in
    let fourth = value_of w d in
    let value : digits_value 10 (x ∷ y ∷ z ∷ w ∷ []) ≡ ((x - 48) * 10 + (y - 48)) * 100 + ((z - 48) * 10 + (w - 48)) = omega (arith, first.0, second.0, third.0, fourth.0) in
    let small : ((x - 48) * 10 + (y - 48)) * 100 + ((z - 48) * 10 + (w - 48)) < 10000 = omega (arith, first.1, second.1, third.1, fourth.1) in
    rw (a, b, c, d, value, lt-ltb _ _ small) refl

joined_digits : (x y z w : ℕ) (p q r s : Bool) → is_ascii_digit x ≡ p → is_ascii_digit y ≡ q → is_ascii_digit z ≡ r → is_ascii_digit w ≡ s
    → digits_below 10000 (x ∷ y ∷ z ∷ w ∷ []) ≡ joined (digits_below 10000 (x ∷ y ∷ [])) (digits_below 10000 (z ∷ w ∷ []))
joined_digits x y z w false q r s a b c d = rw a refl
joined_digits x y z w true false r s a b c d = rw (a, b) refl
joined_digits x y z w true true false s a b c d =
    let none : digits_below 10000 (x ∷ y ∷ z ∷ w ∷ []) ≡ None = rw (a, b, c) refl in
    none ∙ sym (ap (λ o. joined o (digits_below 10000 (z ∷ w ∷ []))) (both_digits x y a b) ∙ ap (joined (Some ((x - 48) * 10 + (y - 48)))) (other_first z w c))
joined_digits x y z w true true true false a b c d =
    let none : digits_below 10000 (x ∷ y ∷ z ∷ w ∷ []) ≡ None = rw (a, b, c, d) refl in
    none ∙ sym (ap (λ o. joined o (digits_below 10000 (z ∷ w ∷ []))) (both_digits x y a b) ∙ ap (joined (Some ((x - 48) * 10 + (y - 48)))) (other_second z w true c d))
joined_digits x y z w true true true true a b c d =
    all_digits x y z w a b c d
    ∙ sym (ap (λ o. joined o (digits_below 10000 (z ∷ w ∷ []))) (both_digits x y a b) ∙ ap (joined (Some ((x - 48) * 10 + (y - 48)))) (both_digits z w c d))

by_pairs : (xs : List ℕ) → 4 ≤ length xs → part xs 0 4 ≡ joined (part xs 0 2) (part xs 2 4)
by_pairs xs inside =
    let digits = digits_below 10000 in
    let x = get_or xs 0 0 in
    let y = get_or xs 1 0 in
    let z = get_or xs 2 0 in
    let w = get_or xs 3 0 in
    ap digits (four_bytes xs inside)
    ∙ joined_digits x y z w (is_ascii_digit x) (is_ascii_digit y) (is_ascii_digit z) (is_ascii_digit w) refl refl refl refl
    ∙ sym (ap (λ l. joined (digits l) (part xs 2 4)) (two_bytes xs 0 (omega arith)) ∙ ap (λ l. joined (digits (x ∷ y ∷ [])) (digits l)) (two_bytes xs 2 inside))

pub is_year : (xs : List ℕ) (century year : ℕ) → 4 ≤ length xs → part xs 0 2 ≡ Some century → part xs 2 4 ≡ Some year → part xs 0 4 ≡ Some (century * 100 + year)
is_year xs century year inside a b = by_pairs xs inside ∙ ap (λ o. joined o (part xs 2 4)) a ∙ ap (joined (Some century)) b

pub no_year : (xs : List ℕ) (century : ℕ) → 4 ≤ length xs → part xs 0 2 ≡ Some century → part xs 2 4 ≡ None → part xs 0 4 ≡ None
no_year xs century inside a b = by_pairs xs inside ∙ ap (λ o. joined o (part xs 2 4)) a ∙ ap (joined (Some century)) b

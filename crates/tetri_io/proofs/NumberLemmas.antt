-- Whole numbers below a limit, and their texts.
use Rattle.std.proofs.Common.{◌≡◌, ◌≢◌, ℕ, zero, suc, ◌+◌, ◌*◌, ◌/◌, ◌%◌, ◌^◌, ◌<◌, ◌≤◌, refl, sym, ap, ◌∙◌, subst, arith, List, [], ◌∷◌, ◌++◌, length, get_or, cond, Bool, true, false, eqb, Option, Some, None, decimal, bytes_eq, All, append_assoc, lit<, lit≤}
use Rattle.std.specs.Prelude.{◌&&◌, ◌⊎◌, nat_lt}
use Rattle.std.specs.Char.{digit_value, is_ascii_digit}
use Rattle.std.specs.List.{list_all}
use Rattle.std.specs.Str.Parse.{AllDigits, IsNumeral, digits_value, digits_value_after}
use Rattle.std.proofs.lemmas.Bool.{false≢true, eqb-true, eq-eqb, lt-ltb, ltb-true}
use Rattle.std.proofs.lemmas.Fmt.{decimal_by_steps_wide, decimal_digit, decimal_is_IsNumeral_wide, decimal_step_wide, length-decimal-le_wide}
use Rattle.std.proofs.lemmas.List.{append-nil}
use Rattle.std.proofs.lemmas.List.Elements.{All-cons}
use Rattle.std.proofs.lemmas.Option.{cond_some}
use Rattle.std.proofs.lemmas.Slice.Eq.{bytes_eq-Decides}
use Rattle.std.proofs.lemmas.Str.{digit_value_digit}
use Rattle.std.proofs.lemmas.Str.Parse.{digit_from_value}
use Rattle.tetri_io.specs.Numbers.{has_leading_zero, number_below}
use Rattle.tetri_io.proofs.Digits.{AreDigits, own}

both_true : (a b : Bool) → (a && b) ≡ true → (a ≡ true) × (b ≡ true)
both_true true true h = (refl, refl)
both_true true false h = absurd (false≢true h)
both_true false b h = absurd (false≢true h)

-- no byte is this one
abbrev pub Avoids : ℕ → List ℕ → Type 0
Avoids mark bytes = All (λ b. eqb b mark ≡ false) bytes

pub other : (x c : ℕ) → x ≢ c → eqb x c ≡ false
other x c n = by_test (eqb x c) refl
  where
    by_test : (t : Bool) → eqb x c ≡ t → t ≡ false
    by_test true e = absurd (n (eqb-true x c e))
    by_test false e = refl

digits_avoid : (mark : ℕ) (ds : List ℕ) → (mark < 48) ⊎ (57 < mark) → AllDigits 10 ds → Avoids mark ds
digits_avoid mark [] h d = λ k e l. absurd (omega arith)
digits_avoid mark (x ∷ xs) h d = All-cons (λ y. eqb y mark ≡ false) x xs (other x mark (λ (e : x ≡ mark). let r = digit_from_value x d.0 in omega arith)) (digits_avoid mark xs h d.1)

wide : (n : ℕ) → n < 2 ^ 127 → n < 10 ^ 64
wide n h = let k : 2 ^ 127 ≤ 10 ^ 64 = lit≤ tt in omega arith

pub numeral : (n : ℕ) → n < 2 ^ 127 → IsNumeral 10 (decimal n) × (digits_value 10 (decimal n) ≡ n)
numeral n h = decimal_is_IsNumeral_wide n (wide n h)

-- a byte that is no digit is in no number
pub decimal_avoids : (mark n : ℕ) → (mark < 48) ⊎ (57 < mark) → n < 2 ^ 127 → Avoids mark (decimal n)
decimal_avoids mark n m h = digits_avoid mark (decimal n) m (numeral n h).0.1

-- a printed number reads back
pub number_below-decimal : (limit n : ℕ) → limit ≤ 2 ^ 127 → n < limit → number_below limit (decimal n) ≡ Some n
unfolding number_below
number_below-decimal limit n k h =
    let v : digits_value 10 (decimal n) ≡ n = (numeral n (omega arith)).1 in
    let s : bytes_eq (decimal (digits_value 10 (decimal n))) (decimal n) ≡ true = ap (λ k. bytes_eq (decimal k) (decimal n)) v ∙ (bytes_eq-Decides (decimal n) (decimal n)).1 refl in
    let t : nat_lt (digits_value 10 (decimal n)) limit ≡ true = ap (λ k. nat_lt k limit) v ∙ lt-ltb n limit h in
    ap (λ (x : Bool). cond (x && nat_lt (digits_value 10 (decimal n)) limit) (Some (digits_value 10 (decimal n))) None) s
    ∙ ap (λ (x : Bool). cond x (Some (digits_value 10 (decimal n))) None) t
    ∙ ap (λ k. Some k) v

-- only a printed number reads
pub number_below-only : (limit : ℕ) (bytes : List ℕ) (n : ℕ) → number_below limit bytes ≡ Some n → (bytes ≡ decimal n) × (n < limit)
unfolding number_below
number_below-only limit bytes n e =
    let c = cond_some (bytes_eq (decimal (digits_value 10 bytes)) bytes && nat_lt (digits_value 10 bytes) limit) (digits_value 10 bytes) n e in
    let t = both_true (bytes_eq (decimal (digits_value 10 bytes)) bytes) (nat_lt (digits_value 10 bytes) limit) c.0 in
    (sym ((bytes_eq-Decides _ _).0 t.0) ∙ ap decimal c.1, subst (λ k. k < limit) c.1 (ltb-true _ _ t.1))

refused : (limit : ℕ) (bytes : List ℕ) → ((n : ℕ) → bytes ≡ decimal n → n < limit → ⊥) → None ≡ number_below limit bytes
refused limit bytes h = by_result (number_below limit bytes) refl
  where
    by_result : (o : Option ℕ) → number_below limit bytes ≡ o → None ≡ o
    by_result None e = refl
    by_result (Some n) e = let r = number_below-only limit bytes n e in absurd (h n r.0 r.1)

-- no number has more than 39 digits
pub decimal_short : (n : ℕ) → n < 2 ^ 127 → length (decimal n) ≤ 39
decimal_short n h = let k : 2 ^ 127 ≤ 10 ^ 39 = lit≤ tt in length-decimal-le_wide 39 n (lit< tt) (omega arith) (wide n h)

-- ---- texts that are no number
first_digit : (n : ℕ) → n < 2 ^ 127 → (0 < length (decimal n)) × (0 < n → 48 < get_or (decimal n) 0 0)
first_digit n h = decimal_by_steps_wide (λ m ds. (0 < length ds) × (0 < m → 48 < get_or ds 0 0)) one more n (wide n h)
  where
    one : (m : ℕ) → m < 10 → (0 < length ((48 + m) ∷ [])) × (0 < m → 48 < 48 + m)
    one m l = (omega arith, λ p. omega arith)

    more : (m : ℕ) (ds : List ℕ) → 10 ≤ m → (0 < length ds) × (0 < m / 10 → 48 < get_or ds 0 0) → (0 < length (ds ++ ((48 + m % 10) ∷ []))) × (0 < m → 48 < get_or (ds ++ ((48 + m % 10) ∷ [])) 0 0)
    more m [] l p = absurd (omega arith)
    more m (d ∷ ds) l p = (omega arith, λ q. p.1 (omega arith))

pub empty_number : (limit : ℕ) (bytes : List ℕ) → limit ≤ 2 ^ 127 → length bytes ≡ 0 → None ≡ number_below limit bytes
empty_number limit bytes k z = refused limit bytes (λ n e l. omega (arith, (first_digit n (omega arith)).0, ap length e))

pub zero_before_number : (limit : ℕ) (bytes : List ℕ) → limit ≤ 2 ^ 127 → 1 < length bytes → get_or bytes 0 0 ≡ 48 → None ≡ number_below limit bytes
zero_before_number limit bytes k more first = refused limit bytes by_size
  where
    by_size : (n : ℕ) → bytes ≡ decimal n → n < limit → ⊥
    by_size zero e l = let z : length (decimal 0) ≡ 1 = ap length (decimal_digit 0 (omega arith)) in omega (arith, ap length e, z)
    by_size (suc n) e l = omega (arith, (first_digit (suc n) (omega arith)).1 (omega arith), ap (λ (x : List ℕ). get_or x 0 0) e)

-- no digits, or digits of a number that is too large
pub not_digits_number : (limit : ℕ) (bytes : List ℕ) → limit ≤ 2 ^ 127 → (AreDigits bytes → 2 ^ 128 ≤ digits_value 10 bytes) → None ≡ number_below limit bytes
not_digits_number limit bytes k large = refused limit bytes (λ n e l.
    let d = numeral n (omega arith) in
    let all : AreDigits bytes = ap (list_all is_ascii_digit) e ∙ own.from (decimal n) d.0.1 in
    omega (arith, large all, ap (digits_value 10) e, d.1))

pub digits_past_limit : (limit : ℕ) (bytes : List ℕ) → limit ≤ 2 ^ 127 → limit ≤ digits_value 10 bytes → None ≡ number_below limit bytes
digits_past_limit limit bytes k past = refused limit bytes (λ n e l. omega (arith, ap (digits_value 10) e, (numeral n (omega arith)).1))

pub leading_zero : (bytes : List ℕ) → has_leading_zero bytes ≡ true → (1 < length bytes) × (get_or bytes 0 0 ≡ 48)
leading_zero bytes e = let t = both_true _ _ e in (ltb-true _ _ t.0, eqb-true _ _ t.1)

pub no_leading_zero : (bytes : List ℕ) → has_leading_zero bytes ≡ false → 1 < length bytes → get_or bytes 0 0 ≢ 48
no_leading_zero bytes e more = λ (z : get_or bytes 0 0 ≡ 48). false≢true (sym e ∙ ap (λ b. b && eqb (get_or bytes 0 0) 48) (lt-ltb _ _ more) ∙ eq-eqb _ _ z)

-- ---- digits that are a number
grows : (n : ℕ) (ds : List ℕ) → n ≤ digits_value_after 10 n ds
grows n [] = omega arith
grows n (c ∷ cs) = omega (arith, grows (n * 10 + digit_value c) cs)

printed_behind : (n : ℕ) (ds : List ℕ) → 0 < n → AllDigits 10 ds → digits_value_after 10 n ds < 2 ^ 127 → decimal (digits_value_after 10 n ds) ≡ decimal n ++ ds
printed_behind n [] some d small = sym (append-nil (decimal n))
printed_behind n (c ∷ cs) some d small =
    let m : ℕ = n * 10 + digit_value c in
    let k = digit_value_digit c (digit_from_value c d.0) in
    let front : m / 10 ≡ n = omega (arith, d.0) in
    let end : 48 + m % 10 ≡ c = omega (arith, d.0) in
    printed_behind m cs (omega arith) d.1 small
    ∙ ap (λ x. x ++ cs) (decimal_step_wide m (omega arith) (wide m (omega (arith, grows m cs))) ∙ (λ i. decimal (front i) ++ (end i ∷ [])))
    ∙ append_assoc (decimal n) (c ∷ []) cs

printed_digits : (ds : List ℕ) → AllDigits 10 ds → 0 < length ds → (1 < length ds → get_or ds 0 0 ≢ 48) → digits_value 10 ds < 2 ^ 127 → decimal (digits_value 10 ds) ≡ ds
printed_digits [] d some plain small = absurd (omega arith)
printed_digits (c ∷ []) d some plain small =
    let k = digit_value_digit c (digit_from_value c d.0) in
    decimal_digit (0 * 10 + digit_value c) (omega (arith, d.0)) ∙ ap (λ x. x ∷ []) (omega arith)
printed_digits (c ∷ e ∷ cs) d some plain small =
    let k = digit_value_digit c (digit_from_value c d.0) in
    let first : c ≢ 48 = plain (omega arith) in
    let is : 48 + (0 * 10 + digit_value c) ≡ c = omega arith in
    printed_behind (0 * 10 + digit_value c) (e ∷ cs) (omega arith) d.1 small
    ∙ ap (λ x. x ++ (e ∷ cs)) (decimal_digit (0 * 10 + digit_value c) (omega (arith, d.0)) ∙ ap (λ x. x ∷ []) is)

pub digits_are_number : (limit : ℕ) (bytes : List ℕ) → limit ≤ 2 ^ 127 → AreDigits bytes → 0 < length bytes → (1 < length bytes → get_or bytes 0 0 ≢ 48) → digits_value 10 bytes < limit → Some (digits_value 10 bytes) ≡ number_below limit bytes
digits_are_number limit bytes k all some plain l =
    let s : decimal (digits_value 10 bytes) ≡ bytes = printed_digits bytes (own.to bytes all) some plain (omega arith) in
    sym (ap (number_below limit) (sym s) ∙ number_below-decimal limit (digits_value 10 bytes) k l)

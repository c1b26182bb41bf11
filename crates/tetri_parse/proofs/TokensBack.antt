-- Printed numbers and names are read back.
use Rattle.std.proofs.Common.{rules, ◌≡◌, ℕ, ◌+◌, ◌-◌, ◌*◌, ◌^◌, ◌≤◌, ◌<◌, ◌&&◌, ◌||◌, ◌==◌, Bool, true, false, nat_le, nat_lt, if◌then◌else◌, List, [], ◌∷◌, ◌++◌, length, take, drop, Ok, Err, refl, ap, ◌∙◌, arith}
use Rattle.std.specs.Prelude.{fold, decimal}
use Rattle.std.specs.List.{list_all, prefix_len}
use Rattle.std.proofs.Math.Seq.{take-append_seam, drop-append_seam}
use Rattle.std.proofs.lemmas.Bool.Decides.{nat_tests}
use Rattle.std.proofs.lemmas.Fmt.{digits_decimal, digits_value-decimal, decimal_nonempty}
use Rattle.std.proofs.lemmas.Str.Parse.{IsNumeralModel, numerals_by_fold}
use Rattle.tetri_cluster.specs.Names.{is_name, is_name_byte}
use Rattle.tetri_parse.specs.declared.token.Class.{Class}
use Rattle.tetri_parse.specs.declared.token.Class.TheVariants.{Blank, Digit, Named}
use Rattle.tetri_parse.specs.Tokens.{stands, skip_blanks, missing, numeral, number_in, number_first, number_at, name_first, name_at}

own : IsNumeralModel (λ ds. list_all (stands Digit) ds ≡ true) (λ ds. fold (λ n d. n * 10 + (d - 48)) 0 ds)
own = numerals_by_fold _ (search rules) (λ n ds. fold (λ m d. m * 10 + (d - 48)) n ds) (search rules)

-- a run of bytes of a class ends at the first other byte
pub run_ends : (class : Class) (bs : List ℕ) (c : ℕ) (rest : List ℕ) → list_all (stands class) bs ≡ true → stands class c ≡ false → prefix_len (stands class) (bs ++ c ∷ rest) ≡ length bs
run_ends class [] c rest all e = rw e refl
run_ends class (b ∷ bs) c rest all e = by_first (stands class b) refl all (λ g. run_ends class bs c rest g e)
  where
    by_first : (t : Bool) → stands class b ≡ t → (t && list_all (stands class) bs) ≡ true → (list_all (stands class) bs ≡ true → prefix_len (stands class) (bs ++ c ∷ rest) ≡ length bs) → prefix_len (stands class) (b ∷ bs ++ c ∷ rest) ≡ length (b ∷ bs)
    by_first true is g ih = let e = ih g in rw is (omega (arith, e))
    by_first false is g ih = absurd (cc)

-- a byte that is no blank stands first
pub no_blank : (b : ℕ) (bs : List ℕ) → stands Blank b ≡ false → skip_blanks (b ∷ bs) ≡ b ∷ bs
no_blank b bs e = rw e refl

digit_no_blank : (b : ℕ) → stands Digit b ≡ true → stands Blank b ≡ false
digit_no_blank b h = grind (arith, nat_tests)

name_no_blank : (b : ℕ) → is_name_byte b ≡ true → stands Blank b ≡ false
name_no_blank b h = grind (arith, nat_tests)

pub first_of : (p : ℕ → Bool) (b : ℕ) (bs : List ℕ) → list_all p (b ∷ bs) ≡ true → p b ≡ true
first_of p b bs h = by_first (p b) refl h
  where
    by_first : (t : Bool) → p b ≡ t → (t && list_all p bs) ≡ true → p b ≡ true
    by_first true is g = is
    by_first false is g = absurd (cc)

-- text that begins with bytes of a class of no blanks has none to skip
begins_so : (class : Class) (bs rest : List ℕ) → ((b : ℕ) → stands class b ≡ true → stands Blank b ≡ false) → 0 < length bs → list_all (stands class) bs ≡ true → skip_blanks (bs ++ rest) ≡ bs ++ rest
begins_so class [] rest f some all = absurd (omega arith)
begins_so class (b ∷ bs) rest f some all = no_blank b (bs ++ rest) (f b (first_of (stands class) b bs all))

pub test_false : {A : Type 0} (b : Bool) (x y : A) → b ≡ false → (if b then x else y) ≡ y
test_false true x y h = absurd (cc)
test_false false x y h = refl

not_zero : (n : ℕ) → 0 < n → (n == 0) ≡ false
not_zero n h = grind (arith, nat_tests)

in_limits : (low high n : ℕ) → low ≤ n → n ≤ high → (nat_lt n low || nat_lt high n) ≡ false
in_limits low high n a b = grind (arith, nat_tests)

pub number_back : (low high n c : ℕ) (rest : List ℕ) → n < 2 ^ 64 → low ≤ n → n ≤ high → stands Digit c ≡ false → number_at low high (decimal n ++ c ∷ rest) ≡ Ok (n, c ∷ rest)
number_back low high n c rest fits above below e =
    let all = digits_decimal own n fits in
    let some = decimal_nonempty n fits in
    let skipped = begins_so Digit (decimal n) (c ∷ rest) digit_no_blank some all in
    let count = run_ends Digit (decimal n) c rest all e in
    let value : numeral (decimal n) ≡ n = digits_value-decimal own n fits in
    ap (λ text. number_first low high (prefix_len (stands Digit) text) text) skipped
    ∙ ap (λ k. number_first low high k (decimal n ++ c ∷ rest)) count
    ∙ test_false (length (decimal n) == 0) (Err (missing (decimal n ++ c ∷ rest))) (number_in low high (numeral (take (length (decimal n)) (decimal n ++ c ∷ rest))) (decimal n ++ c ∷ rest) (drop (length (decimal n)) (decimal n ++ c ∷ rest))) (not_zero (length (decimal n)) some)
    ∙ ap (λ ds. number_in low high (numeral ds) (decimal n ++ c ∷ rest) (drop (length (decimal n)) (decimal n ++ c ∷ rest))) (take-append_seam (decimal n) (c ∷ rest))
    ∙ ap (λ after. number_in low high (numeral (decimal n)) (decimal n ++ c ∷ rest) after) (drop-append_seam (decimal n) (c ∷ rest))
    ∙ ap (λ v. number_in low high v (decimal n ++ c ∷ rest) (c ∷ rest)) value
    ∙ test_false (nat_lt n low || nat_lt high n) _ (Ok (n, c ∷ rest)) (in_limits low high n above below)

-- a printed number has no blanks in front
pub number_first_byte : (n c : ℕ) (rest : List ℕ) → n < 2 ^ 64 → skip_blanks (decimal n ++ c ∷ rest) ≡ decimal n ++ c ∷ rest
number_first_byte n c rest fits = begins_so Digit (decimal n) (c ∷ rest) digit_no_blank (decimal_nonempty n fits) (digits_decimal own n fits)

pub name_parts : (name : List ℕ) → is_name name ≡ true → (0 < length name) × (list_all (stands Named) name ≡ true)
name_parts name h = (by_some (nat_le 1 (length name)) refl h, by_all (nat_le 1 (length name)) (nat_le (length name) 64) h)
  where
    by_some : (b : Bool) → nat_le 1 (length name) ≡ b → (b && nat_le (length name) 64 && list_all is_name_byte name) ≡ true → 0 < length name
    by_some true e g = grind (arith, nat_tests)
    by_some false e g = absurd (cc)

    by_all : (a b : Bool) → (a && b && list_all is_name_byte name) ≡ true → list_all is_name_byte name ≡ true
    by_all true true g = g
    by_all true false g = absurd (cc)
    by_all false b g = absurd (cc)

pub name_first_byte : (name rest : List ℕ) → is_name name ≡ true → skip_blanks (name ++ rest) ≡ name ++ rest
name_first_byte name rest h = let p = name_parts name h in begins_so Named name rest name_no_blank p.0 p.1

pub name_back : (name : List ℕ) (c : ℕ) (rest : List ℕ) → is_name name ≡ true → stands Named c ≡ false → name_at (name ++ c ∷ rest) ≡ Ok (name, c ∷ rest)
name_back name c rest h e =
    let p = name_parts name h in
    let count = run_ends Named name c rest p.1 e in
    ap (λ text. name_first (prefix_len (stands Named) text) text) (name_first_byte name (c ∷ rest) h)
    ∙ ap (λ k. name_first k (name ++ c ∷ rest)) count
    ∙ test_false (length name == 0) (Err (missing (name ++ c ∷ rest))) (Ok (take (length name) (name ++ c ∷ rest), drop (length name) (name ++ c ∷ rest))) (not_zero (length name) p.0)
    ∙ ap (λ front. Ok (front, drop (length name) (name ++ c ∷ rest))) (take-append_seam name (c ∷ rest))
    ∙ ap (λ after. Ok (name, after)) (drop-append_seam name (c ∷ rest))

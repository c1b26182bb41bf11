-- Names that differ are found at their places.
use Rattle.std.proofs.Common.{◌≡◌, ℕ, zero, suc, ◌<◌, ◌&&◌, Bool, true, false, not, nat_le, nat_lt, List, [], ◌∷◌, length, get_or, Some, refl, ap, ◌∙◌, bytes_eq, arith, All, eqb}
use Rattle.std.specs.List.{list_all, position_or_len}
use Rattle.std.proofs.lemmas.Bool.{false≢true}
use Rattle.std.proofs.lemmas.Bool.Decides.{nat_tests}
use Rattle.std.proofs.lemmas.List.Elements.{All-nil, All-cons}
use Rattle.std.proofs.lemmas.List.Folds.{list_any_at}
use Rattle.std.proofs.lemmas.Slice.Eq.{bytes_eq-Decides}
use Rattle.tetri_cluster.specs.Names.{differ, is_among, is_name, is_name_byte, number_of}

same_name : (x : List ℕ) → bytes_eq x x ≡ true
same_name x = (bytes_eq-Decides x x).1 refl

other_names : (x : List ℕ) (xs : List (List ℕ)) (i : ℕ) → is_among x xs ≡ false → i < length xs → bytes_eq (get_or xs i []) x ≡ false
other_names x xs i none lt = by_test (bytes_eq (get_or xs i []) x) refl
  where
    by_test : (b : Bool) → bytes_eq (get_or xs i []) x ≡ b → b ≡ false
    by_test true e =
        let same : get_or xs i [] ≡ x = (bytes_eq-Decides (get_or xs i []) x).0 e in
        let found = list_any_at (bytes_eq x) xs i [] lt (ap (bytes_eq x) same ∙ same_name x) in
        absurd (cc)
    by_test false e = refl

place_of : (names : List (List ℕ)) (n : ℕ) → differ names ≡ true → n < length names → position_or_len (bytes_eq (get_or names n [])) names ≡ n
place_of [] n h lt = absurd (omega arith)
place_of (x ∷ xs) zero h lt = rw (same_name x) refl
place_of (x ∷ xs) (suc n) h lt = by_first (is_among x xs) refl h (λ g. place_of xs n g (omega arith))
  where
    by_first : (b : Bool) → is_among x xs ≡ b → (not b && differ xs) ≡ true → (differ xs ≡ true → position_or_len (bytes_eq (get_or xs n [])) xs ≡ n) → position_or_len (bytes_eq (get_or xs n [])) (x ∷ xs) ≡ suc n
    by_first true e g ih = absurd (cc)
    by_first false e g ih = let other = other_names x xs n e (omega arith) in let rest = ih g in rw other (omega (arith, rest))

-- a name is found at its place
pub number_back : (names : List (List ℕ)) (n : ℕ) → differ names ≡ true → n < length names → number_of (get_or names n []) names ≡ Some n
number_back names n h lt =
    let place = place_of names n h lt in
    let within : nat_lt n (length names) ≡ true = grind (arith, nat_tests) in
    rw (place, within) refl

-- a byte before the marks of names is in none
pub name_avoids : (mark : ℕ) (bytes : List ℕ) → mark < 45 → is_name bytes ≡ true → All (λ b. eqb b mark ≡ false) bytes
name_avoids mark bytes low h = by_bytes bytes (last (nat_le 1 (length bytes)) (nat_le (length bytes) 64) (list_all is_name_byte bytes) h)
  where
    last : (a b c : Bool) → (a && b && c) ≡ true → c ≡ true
    last true true c h = h
    last true false c h = absurd (false≢true h)
    last false b c h = absurd (false≢true h)

    other : (b : ℕ) → is_name_byte b ≡ true → eqb b mark ≡ false
    other b e = grind (arith, nat_tests)

    by_bytes : (bs : List ℕ) → list_all is_name_byte bs ≡ true → All (λ b. eqb b mark ≡ false) bs
    by_bytes [] e = All-nil (λ b. eqb b mark ≡ false)
    by_bytes (b ∷ bs) e = by_first (is_name_byte b) refl e (by_bytes bs)
      where
        by_first : (t : Bool) → is_name_byte b ≡ t → (t && list_all is_name_byte bs) ≡ true → (list_all is_name_byte bs ≡ true → All (λ b. eqb b mark ≡ false) bs) → All (λ b. eqb b mark ≡ false) (b ∷ bs)
        by_first true f g rest = All-cons (λ b. eqb b mark ≡ false) b bs (other b f) (rest g)
        by_first false f g rest = absurd (false≢true g)

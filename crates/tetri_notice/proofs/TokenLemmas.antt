-- The tokens of a text, one after another.
use Rattle.std.proofs.Common.{◌≡◌, ◌==◌, ◌⊎◌, inl, inr, ◌++◌, ◌<◌, ◌^◌, ℕ, ℤ, pos, negsuc, Bool, true, false, List, [], ◌∷◌, take, drop, length, refl, sym, ap, ◌∙◌, arith, Some}
use Rattle.std.specs.Fmt.{signed_decimal}
use lib.Signed.{mag}
use Rattle.std.specs.Borrow.{Bor}
use Rattle.std.specs.Prelude.{IfSome, Option, None}
use Rattle.std.proofs.lemmas.List.{take-append-drop}
use Rattle.std.proofs.lemmas.Bool.{and_parts, eqb-false, eqb-true, ltb-false, not-true, or_parts}
use Rattle.std.specs.List.{list_all}
use Rattle.json.specs.Lex.{token, after_comma, begins_colon, between, fresh, in_string, lex, punctuate, string_token, tokens}
use Rattle.json.specs.Print.{escape}
use Rattle.json.specs.Run.{is_plain, is_stop}
use Rattle.json.specs.Token.{Token, begin_object, end_object, key, number, string}
use Rattle.json.specs.Word.{ends_word}
use Rattle.json.proofs.Printed.Decimals.{IsNumber-signed_decimal}
use Rattle.json.proofs.Printed.Numbers.{lex-number}
use Rattle.json.proofs.Printed.Strings.{content-escape, escape_byte_plain, lex-escape}
use Rattle.tetri_notice.specs.Tokens.{IsBehindValue, IsSmall, tokens_from}

-- ---- braces

pub opened : (b : Bool) (old rest : List ℕ) → b ≡ false → old ≡ 123 ∷ rest → tokens_from b old ≡ begin_object ∷ tokens_from b rest
unfolding lex punctuate
opened b old rest before is = rw (before, is) refl

pub closed : (b : Bool) (old rest : List ℕ) → old ≡ 125 ∷ rest → tokens_from b old ≡ end_object ∷ tokens_from true rest
unfolding lex punctuate
closed true old rest is = rw is refl
closed false old rest is = rw is refl

pub nothing_left : (b : Bool) (rest : List ℕ) → (length rest == 0) ≡ true → tokens_from b rest ≡ []
unfolding lex punctuate
nothing_left true [] e = refl
nothing_left false [] e = refl
nothing_left b (x ∷ xs) e = absurd (omega (arith, eqb-true (length (x ∷ xs)) 0 e))

-- ---- what is quoted

-- what is plain stands for itself
plain_stays : (s : List ℕ) → list_all is_plain s ≡ true → escape s ≡ s
plain_stays [] e = refl
plain_stays (x ∷ xs) e =
    let both = and_parts (is_plain x) (list_all is_plain xs) e in
    let none = or_parts _ _ (not-true (is_stop x) both.0) in
    let tests = or_parts (x == 34) _ none.0 in
    λ i. escape_byte_plain x (eqb-false x 34 tests.0) (eqb-false x 92 tests.1) (ltb-false x 32 none.1) i ++ plain_stays xs both.1 i

lex_quoted : (s r : List ℕ) → list_all is_plain s ≡ true → lex between (34 ∷ (s ++ 34 ∷ r)) ≡ token (string s) ∷ lex between r
unfolding lex
lex_quoted s r plain = rw (plain_stays s plain) at (ap (λ o. token (string_token o) ∷ lex in_string (escape s ++ 34 ∷ r)) (content-escape s r) ∙ ap (λ ls. token (string s) ∷ ls) (lex-escape s r))

keyed : (k r : List ℕ) → list_all is_plain k ≡ true → tokens_from false (34 ∷ (k ++ 34 ∷ 58 ∷ r)) ≡ key k ∷ tokens_from false r
unfolding lex punctuate
keyed k r plain = ap (punctuate fresh) (lex_quoted k (58 ∷ r) plain)

keyed_next : (k r : List ℕ) → list_all is_plain k ≡ true → tokens_from true (44 ∷ 34 ∷ (k ++ 34 ∷ 58 ∷ r)) ≡ key k ∷ tokens_from false r
unfolding lex punctuate
keyed_next k r plain = ap (punctuate after_comma) (lex_quoted k (58 ∷ r) plain)

-- a key stands behind a comma where it stands behind a value
abbrev pub IsAtKey : Bool → List ℕ → List ℕ → Type 0
IsAtKey b old at = ((b ≡ true) × (old ≡ 44 ∷ at)) ⊎ ((b ≡ false) × (old ≡ at))

pub key_next : (seen : List Token) (b : Bool) (old at k : List ℕ) (found : Option (Bor (List ℕ))) → seen ≡ tokens_from b old → IsAtKey b old at → list_all is_plain k ≡ true → IfSome found (λ rest. at ≡ 34 ∷ (k ++ 34 ∷ 58 ∷ rest.now))
    → IfSome found (λ rest. seen ≡ key k ∷ tokens rest.now)
key_next seen b old at k None view is plain named = tt
key_next seen b old at k (Some rest) view (inl (after, is)) plain named = view ∙ rw (after, is, named) (keyed_next k rest.now plain)
key_next seen b old at k (Some rest) view (inr (before, is)) plain named = view ∙ rw (before, is, named) (keyed k rest.now plain)

no_colon : (r : List ℕ) → IsBehindValue r → begins_colon (lex between r) ≡ false
unfolding lex
no_colon [] (inl e) = absurd (omega arith)
no_colon [] (inr e) = absurd (omega arith)
no_colon (x ∷ xs) (inl e) = rw e refl
no_colon (x ∷ xs) (inr e) = rw e refl

quoted : (s r : List ℕ) → list_all is_plain s ≡ true → IsBehindValue r → tokens_from false (34 ∷ (s ++ 34 ∷ r)) ≡ string s ∷ tokens_from true r
unfolding punctuate
quoted s r plain h = ap (punctuate fresh) (lex_quoted s r plain) ∙ rw (no_colon r h) refl

pub string_next : (b : Bool) (old begun end rest : List ℕ) (n : ℕ) → b ≡ false → old ≡ 34 ∷ begun → end ≡ drop n begun → end ≡ 34 ∷ rest → list_all is_plain (take n begun) ≡ true → IsBehindValue rest
    → tokens_from b old ≡ string (take n begun) ∷ tokens_from true rest
string_next b old begun end rest n before is cut last plain h =
    let whole : begun ≡ take n begun ++ 34 ∷ rest = sym (take-append-drop n begun) ∙ ap (λ l. take n begun ++ l) (sym cut ∙ last) in
    rw before (ap (tokens_from false) (is ∙ ap (λ l. 34 ∷ l) whole) ∙ quoted (take n begun) rest plain h)

-- ---- numbers

ends_it : (r : List ℕ) → IsBehindValue r → ends_word r ≡ true
ends_it [] (inl e) = absurd (omega arith)
ends_it [] (inr e) = absurd (omega arith)
ends_it (x ∷ xs) (inl e) = rw e refl
ends_it (x ∷ xs) (inr e) = rw e refl

is_short : (z : ℤ) → IsSmall z → mag z < 2 ^ 63
is_short (pos n) h = omega (arith, h)
is_short (negsuc n) h = omega (arith, h)

numbered : (z : ℤ) (r : List ℕ) → IsSmall z → IsBehindValue r → tokens_from false (signed_decimal z ++ r) ≡ number (signed_decimal z) ∷ tokens_from true r
unfolding punctuate
numbered z r small h = ap (punctuate fresh) (lex-number (signed_decimal z) r (IsNumber-signed_decimal z (is_short z small)) (ends_it r h))

pub number_next : (b : Bool) (old rest : List ℕ) (z : ℤ) → b ≡ false → old ≡ signed_decimal z ++ rest → IsSmall z → IsBehindValue rest → tokens_from b old ≡ number (signed_decimal z) ∷ tokens_from true rest
number_next b old rest z before is small h = rw (before, is) (numbered z rest small h)

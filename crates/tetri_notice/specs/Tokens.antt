-- The tokens of a text, read on from a place in it.
use Rattle.std.specs.Prelude.{◌≡◌, ◌<◌, ◌^◌, ◌⊎◌, ℕ, ℤ, pos, negsuc, Bool, true, false, List, get_or}
use Rattle.json.specs.Lex.{after_value, between, fresh, lex, punctuate}
use Rattle.json.specs.Token.{Token}

-- the tokens of what follows a value, or else the opening of an object or a key
abbrev pub tokens_from : Bool → List ℕ → List Token
tokens_from true text = punctuate after_value (lex between text)
tokens_from false text = punctuate fresh (lex between text)

-- a comma or a closing brace comes first
abbrev pub IsBehindValue : List ℕ → Type 0
IsBehindValue text = (get_or text 0 0 ≡ 44) ⊎ (get_or text 0 0 ≡ 125)

-- it has at most 18 digits
abbrev pub IsSmall : ℤ → Type 0
IsSmall (pos n) = n < 10 ^ 18
IsSmall (negsuc n) = n < 10 ^ 18

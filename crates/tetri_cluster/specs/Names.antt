-- What a name is, and lists of names.
use Rattle.std.specs.Prelude.{ℕ, ◌&&◌, ◌||◌, ◌==◌, List, [], ◌∷◌, length, Bool, nat_le, bytes_eq, not, true, Option, Some, None, ◌++◌, if◌then◌else◌, position}
use Rattle.std.specs.List.{list_all, list_any}

-- a letter, a digit or one of _ - . : /
abbrev pub is_name_byte : ℕ → Bool
is_name_byte b = (nat_le 97 b && nat_le b 122) || (nat_le 65 b && nat_le b 90) || (nat_le 45 b && nat_le b 58) || b == 95

-- 1 to 64 such bytes
abbrev pub is_name : List ℕ → Bool
is_name bytes = nat_le 1 (length bytes) && nat_le (length bytes) 64 && list_all is_name_byte bytes

-- whether a name is one of these
abbrev pub is_among : List ℕ → List (List ℕ) → Bool
is_among name names = list_any (bytes_eq name) names

-- no name comes twice
abbrev pub differ : List (List ℕ) → Bool
differ [] = true
differ (x ∷ xs) = not (is_among x xs) && differ xs

-- the place of a name in a list of names
abbrev pub number_of : List ℕ → List (List ℕ) → Option ℕ
number_of name names = position (bytes_eq name) names

-- the place of the first name of the second list that came before it, where the first list came before all
abbrev pub repeated_after : List (List ℕ) → List (List ℕ) → Option ℕ
repeated_after earlier [] = None
repeated_after earlier (x ∷ xs) = if is_among x earlier then Some (length earlier) else repeated_after (earlier ++ x ∷ []) xs

-- the place of the first name that came before
abbrev pub first_repeated : List (List ℕ) → Option ℕ
first_repeated names = repeated_after [] names

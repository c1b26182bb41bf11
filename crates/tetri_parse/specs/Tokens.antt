-- Words, marks, names and numbers. A reader takes the bytes that are left; a fault says how many were left at its place.
use Rattle.std.specs.Prelude.{ℕ, ◌+◌, ◌-◌, ◌*◌, Bool, true, false, ◌&&◌, ◌||◌, ◌==◌, nat_le, nat_lt, if◌then◌else◌, List, [], ◌∷◌, length, take, drop, fold, codes, Option, Some, None, Result, Ok, Err, bytes_eq}
use Rattle.std.specs.List.{prefix_len}
use Rattle.tetri_cluster.specs.Names.{is_name_byte}
use Rattle.tetri_parse.specs.declared.fault.Fault.{Fault}
use Rattle.tetri_parse.specs.declared.fault.Fault.TheVariants.{Unexpected, Ended, NumberRange}
use Rattle.tetri_parse.specs.declared.fault.Miss.{Miss}
use Rattle.tetri_parse.specs.declared.syntax.Join.TheVariants.{Max, Min, Sum}
use Rattle.tetri_parse.specs.declared.token.Class.{Class}
use Rattle.tetri_parse.specs.declared.token.Class.TheVariants.{Blank, Digit, Letter, Named}
use Rattle.tetri_parse.specs.declared.token.Word.{Word}
use Rattle.tetri_parse.specs.declared.token.Word.TheVariants as word

-- whether a byte is of a class
abbrev pub stands : Class → ℕ → Bool
stands Blank b = b == 32 || b == 9 || b == 13 || b == 10
stands Digit b = nat_le 48 b && nat_le b 57
stands Letter b = (nat_le 97 b && nat_le b 122) || (nat_le 65 b && nat_le b 90)
stands Named b = is_name_byte b

abbrev pub skip_blanks : List ℕ → List ℕ
skip_blanks text = drop (prefix_len (stands Blank) text) text

-- this fault at the first byte
abbrev pub missed : Fault → List ℕ → Miss
missed fault text = record { fault = fault; left = length text }

-- the fault where what should stand first does not
abbrev pub missing : List ℕ → Miss
missing [] = missed Ended []
missing (b ∷ bs) = missed Unexpected (b ∷ bs)

abbrev pub mark_first : ℕ → List ℕ → Result (List ℕ) Miss
mark_first mark [] = Err (missing [])
mark_first mark (b ∷ bs) = if b == mark then Ok bs else Err (missing (b ∷ bs))

-- what stands behind a mark
abbrev pub mark_at : ℕ → List ℕ → Result (List ℕ) Miss
mark_at mark text = mark_first mark (skip_blanks text)

-- the seven words
abbrev pub known_word : List ℕ → Option Word
known_word w =
    if bytes_eq w (codes "nCk") then Some (word.Leaf false) else if bytes_eq w (codes "LnCk") then Some (word.Leaf true) else if bytes_eq w (codes "max") then Some (word.Join Max) else if bytes_eq w (codes "min") then Some (word.Join Min) else if bytes_eq w (codes "sum") then Some (word.Join Sum) else if bytes_eq w (codes "scale") then Some word.Scale else if bytes_eq w (codes "barrier") then Some word.Barrier else None

abbrev pub word_first : Option Word → List ℕ → List ℕ → Result (Word × List ℕ) Miss
word_first (Some w) rest text = Ok (w, rest)
word_first None rest text = Err (missing text)

-- the longest run of letters that stands first, as a word, and what stands behind it
abbrev pub word_at : List ℕ → Result (Word × List ℕ) Miss
word_at text = word_first (known_word (take (prefix_len (stands Letter) text) text)) (drop (prefix_len (stands Letter) text) text) text

abbrev pub name_first : ℕ → List ℕ → Result (List ℕ × List ℕ) Miss
name_first count text = if count == 0 then Err (missing text) else Ok (take count text, drop count text)

-- the longest run of a name's bytes, and what stands behind it
abbrev pub name_at : List ℕ → Result (List ℕ × List ℕ) Miss
name_at text = name_first (prefix_len (stands Named) (skip_blanks text)) (skip_blanks text)

abbrev pub goes_on_first : ℕ → List ℕ → Result (Bool × List ℕ) Miss
goes_on_first last [] = Err (missing [])
goes_on_first last (b ∷ bs) = if b == 44 then Ok (true, bs) else if b == last then Ok (false, bs) else Err (missing (b ∷ bs))

-- whether a list goes on behind a comma, or ends with its last mark
abbrev pub goes_on_at : ℕ → List ℕ → Result (Bool × List ℕ) Miss
goes_on_at last text = goes_on_first last (skip_blanks text)

-- the number that decimal digits write
abbrev pub numeral : List ℕ → ℕ
numeral digits = fold (λ n d. n * 10 + (d - 48)) 0 digits

abbrev pub number_in : ℕ → ℕ → ℕ → List ℕ → List ℕ → Result (ℕ × List ℕ) Miss
number_in low high n text rest = if nat_lt n low || nat_lt high n then Err (missed NumberRange text) else Ok (n, rest)

abbrev pub number_first : ℕ → ℕ → ℕ → List ℕ → Result (ℕ × List ℕ) Miss
number_first low high count text = if count == 0 then Err (missing text) else number_in low high (numeral (take count text)) text (drop count text)

-- the longest run of digits, as a number within its limits, and what stands behind it
abbrev pub number_at : ℕ → ℕ → List ℕ → Result (ℕ × List ℕ) Miss
number_at low high text = number_first low high (prefix_len (stands Digit) (skip_blanks text)) (skip_blanks text)

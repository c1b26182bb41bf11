-- The words of a line, and the numbers that they are.
use Rattle.std.specs.Prelude.{ℕ, ◌+◌, ◌^◌, ◌==◌, ◌||◌, Bool, not, List, [], drop, length, slice_index_or, Option, Some, None, option_map, ok_or, Result, Ok, if◌then◌else◌, bytes_eq, codes, filter}
use Rattle.std.specs.List.{position_or_len, slice_split}
use Rattle.tetri_io.specs.Numbers.{digits_below}
use Rattle.tetri_logs.specs.declared.entry.Cause.{Cause}
use Rattle.tetri_logs.specs.declared.entry.Cause.TheVariants.{Unreadable}

-- a space, a tab, a carriage return or the mark of a comment
abbrev pub is_separator : ℕ → Bool
is_separator b = b == 32 || b == 9 || b == 13 || b == 59

-- what stands between separators, where something does
abbrev pub words_of : List ℕ → List (List ℕ)
words_of line = filter (λ word. not (length word == 0)) (slice_split is_separator line)

-- the place of the next such byte from one place on, or the length of the text
abbrev pub next_place : ℕ → List ℕ → ℕ → ℕ
next_place byte text from = from + position_or_len (λ b. b == byte) (drop from text)

-- a word by its place
abbrev pub word_at : List (List ℕ) → ℕ → List ℕ
word_at words place = slice_index_or words place []

-- the number below 2^32 that 1 to 10 digits are
abbrev pub count_in : List ℕ → Option ℕ
count_in word = digits_below (2 ^ 32) word

-- the number that has to be there, in a column
abbrev pub needed : ℕ → List ℕ → Result ℕ Cause
needed column word = ok_or (count_in word) (Unreadable column)

-- the number that a word in a column is, where it is known
abbrev pub amount : ℕ → List ℕ → Result (Option ℕ) Cause
amount column word = if bytes_eq word (codes "-1") then Ok None else ok_or (option_map Some (count_in word)) (Unreadable column)

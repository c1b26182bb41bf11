-- What stands at an offset of a content.
use Rattle.std.specs.Prelude.{ℕ, ◌+◌, ◌<◌, ◌^◌, ◌≤◌, ◌≡◌, min, List, [], ◌∷◌, length, drop, Vec, Result, Ok, Err}
use Rattle.std.specs.declared.alloc.Global.{Global}
use Rattle.tetri_io.specs.Lines.{line_of, lines_from}
use Rattle.tetri_io.specs.declared.line.Line.{Line}
use Rattle.tetri_io.specs.declared.line.Line.TheVariants.{Text, End}
use Rattle.tetri_io.specs.declared.line.LineFault.{LineFault}
use Rattle.tetri_io.specs.declared.line.LineFault.TheVariants.{Failed, TooLong, NoMemory}

-- The bytes stand before the next line feed or the end, and the next offset is behind that. So they are the first line from there on.
pub record IsLineAt (limit offset : ℕ) (content bytes : List ℕ) (next : ℕ) : Type 0 where
  pub bytes_are : bytes ≡ line_of (drop offset content)
  pub next_is : next ≡ min (offset + length bytes + 1) (length content)
  pub short : length bytes ≤ limit
  pub inside : offset < length content
  pub lines : lines_from offset (drop offset content) ≡ (bytes, next) ∷ lines_from next (drop next content)

-- what a read of a line answers, unless the shelf failed or memory was short
abbrev pub AnswersLine : ℕ → ℕ → List ℕ → Result Line LineFault → Type 0
AnswersLine limit offset content (Ok (Text bytes next)) = IsLineAt limit offset content bytes.items next
AnswersLine limit offset content (Ok End) = length content ≤ offset
AnswersLine limit offset content (Err TooLong) = limit < length (line_of (drop offset content))
AnswersLine limit offset content (Err Failed) = Unit {0}
AnswersLine limit offset content (Err NoMemory) = Unit {0}

-- The next offset is behind this one, and may be read at.
abbrev pub IsPlacedAfter : ℕ → Line → Type 0
IsPlacedAfter offset (Text bytes next) = (offset < next) × (next < 2 ^ 63)
IsPlacedAfter offset End = Unit {0}

-- how many bytes a line has
abbrev pub line_size : Line → ℕ
line_size (Text bytes next) = length bytes.items
line_size End = 0

-- a text, or the end where these are no bytes
abbrev pub ended_at : Vec ℕ Global → ℕ → List ℕ → Line
ended_at bytes next [] = End
ended_at bytes next (x ∷ xs) = Text bytes next

-- the last line, or the end where it has no byte
abbrev pub line_or_end : Vec ℕ Global → ℕ → Line
line_or_end bytes next = ended_at bytes next bytes.items

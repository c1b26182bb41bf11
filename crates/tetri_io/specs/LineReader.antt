-- A reader of lines, one after another.
use Rattle.std.specs.Prelude.{ℕ, ◌≡◌, List, length, take, drop, slice_range}
use Rattle.tetri_io.specs.declared.line.Line.{Line}
use Rattle.tetri_io.specs.declared.line.Line.TheVariants.{Text, End}
use Rattle.tetri_io.specs.declared.line_reader.LineReader.{LineReader}

-- the offset of the next line
abbrev pub place : LineReader → ℕ
place r = r.at

-- the bytes from there on that it keeps
abbrev pub ahead : LineReader → List ℕ
ahead r = slice_range r.chunk.items r.used r.end

-- what it keeps stands there in the content
pub record IsAhead (content : List ℕ) (r : LineReader) : Type 0 where
  pub bytes : ahead r ≡ take (length (ahead r)) (drop (place r) content)

-- the offset behind a line that stood at an offset
abbrev pub line_end : ℕ → Line → ℕ
line_end at (Text bytes next) = next
line_end at End = at

-- The lines of a log that are not read yet.
use Rattle.std.specs.Prelude.{ℕ, ◌+◌, List, length, Bool}
use Rattle.tetri_logs.specs.Layout.{first_layout}
use Rattle.tetri_logs.specs.Lines.{log_lines}
use Rattle.tetri_logs.specs.Reading.{entries_from}
use Rattle.tetri_logs.specs.declared.entry.Entry.{Entry}
use Rattle.tetri_logs.specs.declared.entry.Format.{Format}
use Rattle.tetri_logs.specs.declared.layout.Layout.{Layout}

-- what they are, and how many bytes they take
pub record Unread : Type 0 where
  pub entries : List Entry
  pub bytes : ℕ

-- behind the line with this number, which has left this layout
abbrev pub unread_from : Bool → Layout → ℕ → List ℕ → Unread
unread_from mixed layout number rest = record { entries = entries_from mixed layout (number + 1) (log_lines rest); bytes = length rest }

-- all lines of a log
abbrev pub unread : Bool → Format → List ℕ → Unread
unread mixed format log = unread_from mixed (first_layout format) 0 log

-- What a line of a log is.
use Rattle.std.specs.Prelude.{ℕ, ◌+◌, ◌==◌, Bool, List, [], ◌∷◌, length, map, Option, Some, None, unwrap_or, Result, Ok, Err, if◌then◌else◌}
use Rattle.tetri_cluster.specs.Names.{is_name}
use Rattle.tetri_logs.specs.Facts.{fact_in}
use Rattle.tetri_logs.specs.Header.{header_in, is_header}
use Rattle.tetri_logs.specs.Sacct.{cell, id_name, row_of, sacct_account, told_cell, without_return}
use Rattle.tetri_logs.specs.SetText.{seated}
use Rattle.tetri_logs.specs.Swf.{is_comment, swf_account, swf_partition}
use Rattle.tetri_logs.specs.Tasks.{ids_of}
use Rattle.tetri_logs.specs.Words.{word_at, words_of}
use Rattle.tetri_logs.specs.declared.account.Account.{Account}
use Rattle.tetri_logs.specs.declared.entry.Cause.{Cause}
use Rattle.tetri_logs.specs.declared.entry.Cause.TheVariants.{Unreadable, Beyond}
use Rattle.tetri_logs.specs.declared.entry.Entries.{Entries}
use Rattle.tetri_logs.specs.declared.entry.Entries.TheVariants.{One, Tasks}
use Rattle.tetri_logs.specs.declared.entry.Entry.{Entry}
use Rattle.tetri_logs.specs.declared.entry.Entry.TheVariants.{Job, Comment, Left}
use Rattle.tetri_logs.specs.declared.header.Header.{Header}
use Rattle.tetri_logs.specs.declared.layout.Layout.{Layout}
use Rattle.tetri_logs.specs.declared.layout.Layout.TheVariants.{Words, Table}

-- the entries of a line one after another
abbrev pub entries_in : Entries → List Entry
entries_in (One entry) = entry ∷ []
entries_in (Tasks entries) = entries.items

abbrev pub left_at : ℕ → Cause → Entry
left_at line cause = Left (record { line = line; cause = cause })

-- a job with this name, if it is one
abbrev pub with_name : ℕ → List ℕ → Result Account Cause → Entry
with_name line name (Err cause) = left_at line cause
with_name line name (Ok account) = if is_name name then Job (record { line = line; name = name; account = account; set = [] }) else left_at line Beyond

abbrev pub swf_entry : Bool → ℕ → List ℕ → Entry
swf_entry mixed line text =
    let words = words_of text in
    if is_comment text then Comment (fact_in words) else seated mixed (with_name line (word_at words 0) (swf_account words)) (swf_partition words) []

-- a header in which a column is missing stops being one behind the last
abbrev pub header_entry : ℕ → List (List ℕ) → Option Header → Entry
header_entry line row (Some h) = Comment None
header_entry line row None = left_at line (Unreadable (length row + 1))

-- a job with this identifier
abbrev pub row_entry : Bool → Header → ℕ → List (List ℕ) → Result Account Cause → List ℕ → Entry
row_entry mixed h line row account id = seated mixed (with_name line (id_name id) account) (told_cell row h.partitions) (told_cell row h.constraints)

-- the jobs that an identifier stands for, where a line says some
abbrev pub ids_if : Result Account Cause → List ℕ → List (List ℕ)
ids_if (Err cause) id = id ∷ []
ids_if (Ok account) id = ids_of id

-- the jobs of a line, which have all its account and its set
abbrev pub row_entries : Bool → Header → ℕ → List (List ℕ) → List Entry
row_entries mixed h line row = let account = sacct_account h row in map (row_entry mixed h line row account) (ids_if account (cell row h.id))

abbrev pub table_entries : Bool → Header → ℕ → List ℕ → List Entry
table_entries mixed h line text =
    let row = row_of text in
    if length (without_return text) == 0 then Comment None ∷ []
    else (if is_header row then header_entry line row (header_in row) ∷ [] else row_entries mixed h line row)

-- What a line with this number is, in a layout, where nodes differ or not: one entry, or as many as it has tasks of an array.
abbrev pub line_entries : Bool → Layout → ℕ → List ℕ → List Entry
line_entries mixed Words line text = swf_entry mixed line text ∷ []
line_entries mixed (Table h) line text = table_entries mixed h line text

-- the columns of a line and of those behind it: a header says which there are
abbrev pub header_at : Header → List ℕ → Header
header_at h text =
    if length (without_return text) == 0 then h
    else (if is_header (row_of text) then unwrap_or (header_in (row_of text)) h else h)

abbrev pub layout_at : Layout → List ℕ → Layout
layout_at Words text = Words
layout_at (Table h) text = Table (header_at h text)

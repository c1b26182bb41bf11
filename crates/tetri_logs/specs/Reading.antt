-- What a log says.
use Rattle.std.specs.Prelude.{◌≡◌, ℕ, ◌+◌, List, [], ◌∷◌, ◌++◌, All, Bool, true, false, Option, Some, None}
use Rattle.tetri_logs.specs.Entry.{layout_at, line_entries}
use Rattle.tetri_logs.specs.Layout.{first_layout}
use Rattle.tetri_logs.specs.Lines.{log_lines}
use Rattle.tetri_logs.specs.declared.entry.Reject.{Reject}
use Rattle.tetri_logs.specs.declared.entry.Entry.{Entry}
use Rattle.tetri_logs.specs.declared.entry.Entry.TheVariants.{Job, Comment, Left}
use Rattle.tetri_logs.specs.declared.entry.Format.{Format}
use Rattle.tetri_logs.specs.declared.entry.LoggedJob.{LoggedJob}
use Rattle.tetri_logs.specs.declared.comments.Fact.{Fact}
use Rattle.tetri_logs.specs.declared.comments.Fact.TheVariants.{Nodes, Processors, Start}
use Rattle.tetri_logs.specs.declared.layout.Layout.{Layout}
use Rattle.tetri_logs.specs.declared.reading.Facts.{Facts}

-- what lines are, where the first has this number and those before it left this layout, and nodes differ or not
abbrev pub entries_from : Bool → Layout → ℕ → List (List ℕ) → List Entry
entries_from mixed layout number [] = []
entries_from mixed layout number (line ∷ lines) = line_entries mixed layout number line ++ entries_from mixed (layout_at layout line) (number + 1) lines

-- what all lines of a log are
abbrev pub entries_of : Bool → Format → List (List ℕ) → List Entry
entries_of mixed format lines = entries_from mixed (first_layout format) 1 lines

abbrev pub entries : Bool → Format → List ℕ → List Entry
entries mixed format log = entries_of mixed format (log_lines log)

-- the jobs, in the order of the log
abbrev pub jobs_in : List Entry → List LoggedJob
jobs_in [] = []
jobs_in (Job job ∷ es) = job ∷ jobs_in es
jobs_in (Comment fact ∷ es) = jobs_in es
jobs_in (Left reject ∷ es) = jobs_in es

-- jobs that stand on one line were submitted in one second
abbrev pub AreTimedByLine : List LoggedJob → Type 0
AreTimedByLine jobs = All (λ a. All (λ b. a.line ≡ b.line → a.account.submit ≡ b.account.submit) jobs) jobs

-- the lines that bring no job, and the tasks of an array that bring none
abbrev pub left_in : List Entry → List Reject
left_in [] = []
left_in (Job job ∷ es) = left_in es
left_in (Comment fact ∷ es) = left_in es
left_in (Left reject ∷ es) = reject ∷ left_in es

abbrev pub is_comment : Entry → Bool
is_comment (Job job) = false
is_comment (Comment fact) = true
is_comment (Left reject) = false

abbrev pub no_facts : Facts
no_facts = record { nodes = None; processors = None; start = 0 }

-- the facts with one more, in the place of an earlier one of its kind
abbrev pub with_fact : Facts → Option Fact → Facts
with_fact f None = f
with_fact f (Some (Nodes number)) = record f { nodes = Some number }
with_fact f (Some (Processors number)) = record f { processors = Some number }
with_fact f (Some (Start start)) = record f { start = start }

-- the facts with those of comments
abbrev pub facts_in : Facts → List Entry → Facts
facts_in f [] = f
facts_in f (Job job ∷ es) = facts_in f es
facts_in f (Comment fact ∷ es) = facts_in (with_fact f fact) es
facts_in f (Left reject ∷ es) = facts_in f es

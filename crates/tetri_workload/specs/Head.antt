-- What a log says, and what stands before its first job.
use Rattle.std.specs.Prelude.{◌≡◌, ◌+◌, List, [], ◌++◌, Option, Some, None}
use Rattle.tetri_base.specs.Lists.{count}
use Rattle.tetri_logs.specs.Entry.{entries_in}
use Rattle.tetri_logs.specs.Reading.{facts_in, is_comment, jobs_in, left_in, no_facts}
use Rattle.tetri_logs.specs.declared.entry.Entries.{Entries}
use Rattle.tetri_logs.specs.declared.entry.Entry.{Entry}
use Rattle.tetri_logs.specs.declared.reading.Log.{Log}

-- what lines with these entries say
pub record IsSaidBy (es : List Entry) (l : Log) : Type 0 where
  pub jobs : l.jobs.items ≡ jobs_in es
  pub left : l.left.items ≡ left_in es
  pub facts : l.facts ≡ facts_in no_facts es
  pub comments : l.comments ≡ count is_comment es

-- what a log with these entries says before its first job, where the others stand behind
abbrev pub IsHead : List Entry → List Entry → Log → Type 0
IsHead es others l = (first : List Entry) × (first ++ others ≡ es) × (jobs_in first ≡ []) × IsSaidBy first l

-- what these entries say, of which none is a job, is added to what was said
pub record IsAdded (es : List Entry) (old new : Log) : Type 0 where
  pub none : jobs_in es ≡ []
  pub jobs : new.jobs.items ≡ old.jobs.items
  pub left : new.left.items ≡ old.left.items ++ left_in es
  pub facts : new.facts ≡ facts_in old.facts es
  pub comments : new.comments ≡ old.comments + count is_comment es

-- the entries of a line, if there is one, and of those behind it
abbrev pub entries_with : Option Entries → List Entry → List Entry
entries_with None others = []
entries_with (Some found) others = entries_in found ++ others

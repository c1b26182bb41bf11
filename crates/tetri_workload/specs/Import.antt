-- From a log to a trace.
use Rattle.std.specs.Prelude.{◌≡◌, ◌+◌, ℕ, Bool, List, ◌++◌, length, map, string_bytes, None, Some, Ok, Err}
use Rattle.tetri_base.specs.Lists.{count}
use Rattle.tetri_logs.specs.declared.entry.Entry.{Entry}
use Rattle.tetri_logs.specs.declared.entry.Format.{Format}
use Rattle.tetri_logs.specs.declared.entry.LoggedJob.{LoggedJob}
use Rattle.tetri_trace.specs.Lines.{scenario_in}
use Rattle.tetri_trace.specs.Scenario.{Scenario}
use Rattle.tetri_logs.specs.Options.{AreGood, settings_of}
use Rattle.tetri_cluster.specs.declared.cluster.NodeText.{NodeText}
use Rattle.tetri_workload.specs.Kinds.{are_mixed, fitted, settled_all}
use Rattle.tetri_workload.specs.Ordering.{IsMoveBy, IsOrderBy}
use Rattle.tetri_logs.specs.Origin.{begun, gap_of}
use Rattle.tetri_logs.specs.Reading.{entries, facts_in, is_comment, jobs_in, left_in, no_facts}
use Rattle.tetri_trace.specs.declared.trace.Event.{Event}
use Rattle.tetri_workload.specs.Saying.{AreSeated, IsReadAs, bare, header_of}
use Rattle.tetri_workload.specs.Taking.{Tally, so_far, taken_all, with_left}
use Rattle.tetri_workload.specs.Text.{text_of}
use Rattle.tetri_workload.specs.declared.importing.Drawn.{Drawn}
use Rattle.tetri_workload.specs.declared.importing.Imported.{Imported}
use Rattle.tetri_workload.specs.declared.importing.ImportFault.{ImportFault}
use Rattle.tetri_workload.specs.declared.importing.ImportFault.TheVariants as faults
use Rattle.tetri_logs.specs.declared.options.Options.{Options}
use Rattle.tetri_logs.specs.declared.options.Settings.{Settings}

-- what is taken of a log's jobs in this order, with its events in this one
abbrev pub in_turn : Settings → List LoggedJob → List Event → Tally
in_turn s order events = record (taken_all s order) { events = events }

-- The trace of what is taken of a log's jobs in this order. Where nodes differ, they are these, and each job may use those of its set.
pub record IsTraceOf (s : Settings) (nodes : List NodeText) (order : List LoggedJob) (text : List ℕ) (said : Scenario) : Type 0 where
  pub read : scenario_in text ≡ Ok said
  pub header : said.header ≡ header_of s (taken_all s order).until
  pub count : length said.nodes ≡ s.nodes
  pub jobs : map (bare (are_mixed nodes)) said.submissions ≡ (taken_all s order).jobs
  pub events : IsOrderBy (λ e. e.at) (taken_all s order).events said.events
  pub seated : AreSeated nodes (taken_all s order).sets said

-- Each line of a log is a job that is taken, a comment, or counted under the cause why it brings no job, in the order of the lines; a line with tasks of an array
-- is as many jobs.
pub record IsWhole (es : List Entry) (differ : Bool) (s : Settings) (order : List LoggedJob) (i : Imported) : Type 0 where
  pub left : IsOrderBy (λ r. r.line) (left_in es ++ (taken_all s order).left) i.left.items
  pub jobs : i.jobs ≡ length (taken_all s order).jobs
  pub rounded : i.rounded ≡ length (taken_all s order).rounded
  pub comments : i.comments ≡ count is_comment es
  pub mixed : i.mixed ≡ differ
  pub lines : i.jobs + length i.left.items + i.comments ≡ length es

-- what is asked for of a log with these entries, and its jobs in order of submission, each with how many nodes are in its set where nodes differ
pub record IsDraft (es : List Entry) (nodes : List NodeText) (o : Options) (draft : Settings) (order : List LoggedJob) : Type 0 where
  pub settings : settings_of o (facts_in no_facts es) ≡ Ok draft
  pub ordered : IsOrderBy (λ j. j.account.submit) (settled_all nodes (jobs_in es)) order

-- What is taken of a log with these entries, in this order, but for the order in which jobs were left out.
pub record IsDrawnIn (es : List Entry) (nodes : List NodeText) (o : Options) (d : Drawn) (draft : Settings) (order : List LoggedJob) : Type 0 where
  pub drafted : IsDraft es nodes o draft order
  pub settings : d.settings ≡ begun draft order
  pub good : AreGood d.settings
  pub together : gap_of o d.settings order ≡ None
  pub tally : so_far d.taken ≡ with_left (taken_all d.settings order) d.taken.left.items
  pub moved : IsMoveBy (λ r. r.line) (taken_all d.settings order).left d.taken.left.items
  pub left : d.left.items ≡ left_in es
  pub comments : d.comments ≡ count is_comment es
  pub whole : length (jobs_in es) + length (left_in es) + d.comments ≡ length es

abbrev pub IsDrawn : List Entry → List NodeText → Options → Drawn → Type 0
IsDrawn es nodes o d = (draft : Settings) × (order : List LoggedJob) × IsDrawnIn es nodes o d draft order

-- What follows of a log with these entries. Slot 0 begins with the first job that may begin it.
pub record IsImportOf (es : List Entry) (nodes : List NodeText) (o : Options) (i : Imported) (draft : Settings) (order : List LoggedJob) (said : Scenario) : Type 0 where
  pub drafted : IsDraft es nodes o draft order
  pub together : gap_of o (begun draft order) order ≡ None
  pub trace : IsTraceOf (begun draft order) nodes order (string_bytes i.trace) said
  pub whole : IsWhole es (are_mixed nodes) (begun draft order) order i

-- The text is a trace, with an arrival for each job that is taken, in order of submission; nothing of the log is dropped in silence.
abbrev pub IsImportOn : Format → Options → List NodeText → List ℕ → Imported → Type 0
IsImportOn format o nodes log i =
    (draft : Settings) × (order : List LoggedJob) × (said : Scenario) × IsImportOf (entries (are_mixed nodes) format log) nodes o i draft order said

-- the same with as many nodes as are given, where these differ
abbrev pub IsImport : Format → Options → List NodeText → List ℕ → Imported → Type 0
IsImport format o nodes log i = IsImportOn format (fitted nodes o) nodes log i

-- The first jobs lie as long before the others as a trace is long; the first of these was submitted at this second.
pub record IsApart (es : List Entry) (nodes : List NodeText) (o : Options) (draft : Settings) (order : List LoggedJob) (second : ℕ) : Type 0 where
  pub drafted : IsDraft es nodes o draft order
  pub apart : gap_of o (begun draft order) order ≡ Some second

-- The text that is made of what is taken of a log with these entries is not read as a trace that says so.
pub record IsUnread (es : List Entry) (nodes : List NodeText) (o : Options) (draft : Settings) (order : List LoggedJob) (events : List Event) : Type 0 where
  pub drafted : IsDraft es nodes o draft order
  pub timed : IsOrderBy (λ e. e.at) (taken_all (begun draft order) order).events events
  pub unlike : IsReadAs (begun draft order) nodes (in_turn (begun draft order) order events) (text_of (begun draft order) nodes (in_turn (begun draft order) order events)) → ⊥

-- an option is refused for the first thing that cannot be, a log for a gap in it, and a text that is not read as it should be
abbrev pub IsRefused : List Entry → List NodeText → Options → ImportFault → Type 0
IsRefused es nodes o (faults.Options fault) = settings_of o (facts_in no_facts es) ≡ Err fault
IsRefused es nodes o (faults.Apart second) = (draft : Settings) × (order : List LoggedJob) × IsApart es nodes o draft order second
IsRefused es nodes o faults.Unlike = (draft : Settings) × (order : List LoggedJob) × (events : List Event) × IsUnread es nodes o draft order events
IsRefused es nodes o faults.NoMemory = Unit {0}

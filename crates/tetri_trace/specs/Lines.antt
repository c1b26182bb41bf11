-- The trace that the bytes of a content are, one step a line.
use Rattle.std.specs.Prelude.{ℕ, ◌+◌, ℤ, List, [], ◌∷◌, ◌++◌, length, Bool, nat_lt, is_none, if◌then◌else◌, Option, Some, None, ok_or, Result, Ok, Err}
use Rattle.std.specs.List.{list_all, list_any}
use Rattle.serde_json.specs.Data.{Data}
use Rattle.tetri_io.specs.Lines.{lines_from}
use Rattle.tetri_io.specs.Words.{is_blank}
use Rattle.tetri_cluster.specs.Names.{first_repeated, is_among, number_of}
use Rattle.tetri_cluster.specs.Cluster.{names_of}
use Rattle.tetri_cluster.specs.declared.cluster.NodeText.{NodeText}
use Rattle.tetri_parse.specs.Expression.{expression, node_set}
use Rattle.tetri_request.specs.declared.ask.Ask.{Ask}
use Rattle.tetri_request.specs.declared.ask.Prefer.{Prefer}
use Rattle.tetri_base.specs.ResultSteps.{◌>>=◌}
use Rattle.tetri_notice.specs.Asks.{AskText, PreferText, ask_with, prefer_with}
use Rattle.tetri_notice.specs.Fields.{object_in}
use Rattle.tetri_notice.specs.Headers.{HeaderText, header_in}
use Rattle.tetri_notice.specs.Objects.{DemandText, written, asked, Notice, arrives, cancels, drains, undrains, fails, event_in}
use Rattle.tetri_trace.specs.Answers.{at_line, in_text}
use Rattle.tetri_trace.specs.Closures.{closures_at}
use Rattle.tetri_trace.specs.Scenario.{Demand, strl, asks, Scenario, Submission, job_names, without_events}
use Rattle.tetri_notice.specs.declared.fault.TraceWhy.{TraceWhy}
use Rattle.tetri_notice.specs.declared.fault.TraceWhy.TheVariants.{LineTooLong, TraceTooLong, NoHeader, OutOfOrder, PastEnd, NameTaken, NoSuchJob, NoSuchNode, TooManyJobs}
use Rattle.tetri_trace.specs.declared.trace.Happening.{Happening}
use Rattle.tetri_trace.specs.declared.trace.Happening.TheVariants.{Arrive, Cancel, Drain, Undrain, Fail}

-- spaces, tabs and carriage returns alone
abbrev pub is_blank_line : List ℕ → Bool
is_blank_line line = list_all is_blank line

-- the slot of one more event, which no earlier event comes after
abbrev pub next_slot : Scenario → ℕ → Result ℕ TraceWhy
next_slot s at = if list_any (λ e. nat_lt at e.at) s.events then Err OutOfOrder else (if nat_lt at s.header.until then Ok at else Err PastEnd)

-- one event more
abbrev pub with_event : Scenario → ℕ → Happening → Scenario
with_event s at what = record s { events = s.events ++ (record { at = at; what = what }) ∷ [] }

-- one job more, which has the next number and arrives
abbrev pub with_job : Scenario → Submission → Scenario
with_job s job = with_event (record s { submissions = s.submissions ++ job ∷ [] }) job.arrival (Arrive (length s.submissions))

-- a job is taken unless 100,000 are there
abbrev pub admitted : Scenario → Submission → Result Scenario TraceWhy
admitted s job = if nat_lt (length s.submissions) 100000 then Ok (with_job s job) else Err TooManyJobs

-- the place that an ask prefers, with the number of its set, and the sets with it
abbrev pub prefer_of : List NodeText → Option PreferText → List (List ℕ) → Result (Option Prefer × List (List ℕ)) TraceWhy
prefer_of nodes None sets = Ok (None, sets)
prefer_of nodes (Some p) sets = in_text (node_set p.set nodes sets) >>= λ set. Ok (Some (prefer_with set.0 p), set.1)

-- an ask with the numbers of its sets, its own before the preferred one, and the sets with them
unfoldable pub ask_of : List NodeText → AskText → List (List ℕ) → Result (Ask × List (List ℕ)) TraceWhy
ask_of nodes a sets = do
  set ← in_text (node_set a.set nodes sets)
  prefer ← prefer_of nodes a.prefer set.1
  Ok (ask_with a set.0 prefer.0, prefer.1)

-- what a job that arrives in a slot asks for, and the sets with those that it names
abbrev pub demand_at : Scenario → ℕ → DemandText → Result (Demand × List (List ℕ)) TraceWhy
demand_at s at (written text) = in_text (expression text s.header.unit at s.nodes s.sets) >>= λ said. Ok (strl said.0, said.1)
demand_at s at (asked a) = ask_of s.nodes a s.sets >>= λ said. Ok (asks said.0, said.1)

-- a job arrives
unfoldable pub arrived : Scenario → ℕ → List ℕ → ℤ → DemandText → Result Scenario TraceWhy
arrived s at name late demand =
    if is_among name (job_names s.submissions) then Err NameTaken else do
      said ← demand_at s at demand
      admitted (record s { sets = said.1 }) (record { name = name; arrival = at; late = late; demand = said.0 })

abbrev pub happened : Scenario → ℕ → Notice → Result Scenario TraceWhy
happened s at (arrives name late demand) = arrived s at name late demand
happened s at (cancels name) = ok_or (number_of name (job_names s.submissions)) NoSuchJob >>= λ job. Ok (with_event s at (Cancel job))
happened s at (drains name) = ok_or (number_of name (names_of s.nodes)) NoSuchNode >>= λ node. Ok (with_event s at (Drain node))
happened s at (undrains name) = ok_or (number_of name (names_of s.nodes)) NoSuchNode >>= λ node. Ok (with_event s at (Undrain node))
happened s at (fails name) = ok_or (number_of name (names_of s.nodes)) NoSuchNode >>= λ node. Ok (with_event s at (Fail node))

-- the trace with what happens at a slot
abbrev pub noticed : Scenario → ℕ × Notice → Result Scenario TraceWhy
noticed s said = next_slot s said.0 >>= λ at. happened s at said.1

-- the trace with the event that an object is
abbrev pub add_event : Scenario → Data → Result Scenario TraceWhy
add_event s d = event_in s.header.unit d >>= noticed s

-- nodes whose names differ
abbrev pub named_apart : List NodeText → Result (List NodeText) TraceWhy
named_apart nodes = if is_none (first_repeated (names_of nodes)) then Ok nodes else Err NameTaken

-- the trace that a header begins
unfoldable pub begun : HeaderText → Result Scenario TraceWhy
begun h = do
  nodes ← named_apart h.nodes
  closures ← ok_or (closures_at (names_of nodes) h.closures) NoSuchNode
  Ok (without_events h.header nodes closures)

-- the trace with the event that a line is
abbrev pub event_line : Scenario → List ℕ → Result Scenario TraceWhy
event_line s line = object_in line >>= add_event s

-- the trace that the header on a line begins
abbrev pub header_line : List ℕ → Result Scenario TraceWhy
header_line line = object_in line >>= λ d. header_in d >>= begun

-- The first object is the header, and each later one an event.
abbrev pub add_object : Option Scenario → Data → Result (Option Scenario) TraceWhy
add_object None d = header_in d >>= λ h. begun h >>= λ s. Ok (Some s)
add_object (Some s) d = add_event s d >>= λ t. Ok (Some t)

-- a line, with the offset behind it and its line feed, after those that made this trace
unfoldable pub add_line : Option Scenario → List ℕ × ℕ → Result (Option Scenario) TraceWhy
add_line so_far line =
    if nat_lt 1048576 (length line.0) then Err LineTooLong else (if nat_lt 67108864 line.1 then Err TraceTooLong else (if is_blank_line line.0 then Ok so_far else (do
      object ← object_in line.0
      add_object so_far object)))

-- a trace has a header, which is missed at the line behind the last one
abbrev pub ended : Option Scenario → ℕ → Result Scenario (ℕ × TraceWhy)
ended None line = Err (line, NoHeader)
ended (Some s) line = Ok s

-- the trace that these lines and those before them make, where the next line has this number
abbrev pub from_lines : Option Scenario → ℕ → List (List ℕ × ℕ) → Result Scenario (ℕ × TraceWhy)
from_lines so_far line [] = ended so_far line
from_lines so_far line (l ∷ ls) = at_line line (add_line so_far l) >>= λ more. from_lines more (line + 1) ls

-- the trace that a content is, or its first faulty line with the first fault there; lines count from 1
abbrev pub scenario_in : List ℕ → Result Scenario (ℕ × TraceWhy)
scenario_in bytes = from_lines None 1 (lines_from 0 bytes)

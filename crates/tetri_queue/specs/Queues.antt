-- The trace of one cycle of a queue.
use Rattle.std.specs.Prelude.{◌≡◌, ℕ, ℤ, pos, ◌==◌, ◌&&◌, Bool, true, false, not, nat_le, List, [], length, map, slice_index_or, string_bytes, Option, Some, None, is_none, Result, Ok, Err}
use Rattle.tetri_base.specs.Lists.{count}
use Rattle.tetri_cluster.specs.Cluster.{names_of}
use Rattle.tetri_cluster.specs.Names.{first_repeated}
use Rattle.tetri_cluster.specs.declared.cluster.NodeText.{NodeText}
use Rattle.tetri_hosts.specs.Nodes.{nodes_in}
use Rattle.tetri_io.specs.Words.{parts_at}
use Rattle.tetri_notice.specs.declared.header.Header.{Header}
use Rattle.tetri_request.specs.declared.ask.Ask.{Ask}
use Rattle.tetri_trace.specs.Lines.{scenario_in}
use Rattle.tetri_trace.specs.Scenario.{Demand, Scenario, Submission, asks, strl}
use Rattle.tetri_queue.specs.Asking.{fault_of}
use Rattle.tetri_queue.specs.declared.asked.Asked.{Asked}
use Rattle.tetri_queue.specs.declared.asked.AskedFault.{AskedFault}
use Rattle.tetri_queue.specs.declared.cause.Cause.{Cause}
use Rattle.tetri_queue.specs.declared.cause.Fate.{Fate}
use Rattle.tetri_queue.specs.declared.cause.Fate.TheVariants.{Taken, Running, Released, Blank, Left}
use Rattle.tetri_queue.specs.declared.gathering.Cycle.{Cycle}
use Rattle.tetri_queue.specs.declared.gathering.TakenJob.{TakenJob}
use Rattle.tetri_queue.specs.declared.queueing.Queue.{Queue}
use Rattle.tetri_queue.specs.declared.queueing.QueueFault.{QueueFault}
use Rattle.tetri_queue.specs.declared.queueing.QueueFault.TheVariants as fault

abbrev pub is_taken : Fate → Bool
is_taken Taken = true
is_taken Running = false
is_taken Released = false
is_taken Blank = false
is_taken (Left cause) = false

-- a job and what it asks for, with its set as the nodes of it
pub record Wish : Type 0 where
  pub name : List ℕ
  pub arrival : ℕ
  pub late : ℤ
  pub ask : Ask
  pub nodes : List ℕ

abbrev pub wish_by : List (List ℕ) → Submission → Demand → Option Wish
wish_by sets u (strl tree) = None
wish_by sets u (asks a) = Some (record { name = u.name; arrival = u.arrival; late = u.late; ask = record a { set = 0 }; nodes = slice_index_or sets a.set [] })

-- what a job of a trace with these sets asks for, if that is no expression
abbrev pub wanted_of : List (List ℕ) → Submission → Option Wish
wanted_of sets u = wish_by sets u u.demand

-- what a job that is taken asks for: it arrives in slot 0
abbrev pub wanted : TakenJob → Option Wish
wanted j = Some (record { name = j.name; arrival = 0; late = pos 0; ask = j.ask; nodes = j.nodes })

-- one cycle, with worths as they are written
abbrev pub header_of : Cycle → Header
header_of c = record { window = c.window; budget = c.budget; until = 1; unit = 1 }

-- A trace is that of a cycle.
pub record IsCycle (c : Cycle) (said : Scenario) : Type 0 where
  pub header : said.header ≡ header_of c
  pub nodes : names_of said.nodes ≡ names_of c.cluster
  pub closures : said.closures ≡ c.closures.items
  pub jobs : map (wanted_of said.sets) said.submissions ≡ map wanted c.jobs.items
  pub events : said.events ≡ c.events.items

-- a text is read as the trace of a cycle
abbrev pub IsReadAs : Cycle → List ℕ → Type 0
IsReadAs c text = (said : Scenario) × (scenario_in text ≡ Ok said) × IsCycle c said

-- What is handed out of these lines: a text that is read as the trace of a cycle, whose nodes are those of the lines that tell of nodes; each line has its fate, and those of jobs that are taken
-- are as many as the jobs.
pub record IsQueue (a : Asked) (job_lines node_lines reserved_lines : List ℕ) (q : Queue) : Type 0 where
  pub trace : IsReadAs q.cycle (string_bytes q.trace)
  pub window : q.cycle.window ≡ a.window
  pub budget : q.cycle.budget ≡ a.budget
  pub cluster : q.cycle.cluster ≡ (nodes_in node_lines).nodes
  pub fates : length q.fates.items ≡ length (parts_at 10 job_lines)
  pub taken : count is_taken q.fates.items ≡ length q.cycle.jobs.items
  pub nodes : q.nodes.items ≡ (nodes_in node_lines).fates
  pub reservations : length q.reservations.items ≡ length (parts_at 10 reserved_lines)

-- whether there is a node, and at most 4,096, whose names differ
abbrev pub are_nodes : List NodeText → Bool
are_nodes nodes = not (length nodes == 0) && nat_le (length nodes) 4096 && is_none (first_repeated (names_of nodes))

abbrev pub fault_in : Asked → List ℕ → Option AskedFault
fault_in a reserved_lines = fault_of a (not (length reserved_lines == 0))

abbrev pub are_nodes_in : List ℕ → Bool
are_nodes_in node_lines = are_nodes (nodes_in node_lines).nodes

-- What is answered: each error has its cause, in this order, and there is no other.
abbrev pub AnswersQueue : Asked → List ℕ → List ℕ → List ℕ → Result Queue QueueFault → Type 0
AnswersQueue a job_lines node_lines reserved_lines (Ok q) = IsQueue a job_lines node_lines reserved_lines q
AnswersQueue a job_lines node_lines reserved_lines (Err (fault.Asked why)) = fault_in a reserved_lines ≡ Some why
AnswersQueue a job_lines node_lines reserved_lines (Err fault.Nodes) = (fault_in a reserved_lines ≡ None) × (are_nodes_in node_lines ≡ false)
AnswersQueue a job_lines node_lines reserved_lines (Err fault.Unlike) = (fault_in a reserved_lines ≡ None) × (are_nodes_in node_lines ≡ true)
AnswersQueue a job_lines node_lines reserved_lines (Err fault.NoMemory) = Unit {0}

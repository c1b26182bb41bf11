-- A trace as plain data.
use Rattle.std.specs.Prelude.{ℕ, ℤ, pos, List, [], map, slice_index_or}
use Rattle.tetri_strl.specs.Tree.{Tree, added, join, none, tree}
use Rattle.tetri_request.specs.declared.ask.Ask.{Ask}
use Rattle.tetri_cluster.specs.declared.cluster.NodeText.{NodeText}
use Rattle.tetri_space.specs.declared.closure.Closure.{Closure}
use Rattle.tetri_notice.specs.declared.header.Header.{Header}
use Rattle.tetri_trace.specs.declared.trace.Work.{Work}
use Rattle.tetri_trace.specs.declared.trace.Work.TheVariants.{Strl, Asked}
use Rattle.tetri_trace.specs.declared.trace.Job.{Job}
use Rattle.tetri_trace.specs.declared.trace.Event.{Event}
use Rattle.tetri_trace.specs.declared.trace.Trace.{Trace}

-- what a job asks for: an expression with absolute starts, or an ask whose requests are made anew in each cycle
pub data Demand : Type 0 where
  strl : Tree → Demand
  asks : Ask → Demand

pub record Submission : Type 0 where
  pub name : List ℕ
  pub arrival : ℕ
  pub late : ℤ
  pub demand : Demand

-- nodes, sets and submissions have the numbers of their places
pub record Scenario : Type 0 where
  pub header : Header
  pub nodes : List NodeText
  pub sets : List (List ℕ)
  pub closures : List Closure
  pub submissions : List Submission
  pub events : List Event

-- a header alone
abbrev pub without_events : Header → List NodeText → List Closure → Scenario
without_events header nodes closures = record { header = header; nodes = nodes; sets = []; closures = closures; submissions = []; events = [] }

abbrev pub demand_of : Work → Demand
demand_of (Strl e) = strl (tree e)
demand_of (Asked a) = asks a

abbrev pub submission : Job → Submission
submission j = record { name = j.name; arrival = j.arrival; late = j.late; demand = demand_of j.work }

-- what a trace says
abbrev pub scenario : Trace → Scenario
scenario t = record {
  header = t.header;
  nodes = t.cluster;
  sets = t.sets.value;
  closures = t.closures.value;
  submissions = map submission t.jobs;
  events = t.events.items;
}

abbrev pub job_names : List Submission → List (List ℕ)
job_names js = map (λ j. j.name) js

-- what stands for a job that is not there
abbrev pub nothing_submitted : Submission
nothing_submitted = record { name = []; arrival = 0; late = pos 0; demand = strl (join added none) }

-- the submission of a job
abbrev pub submission_of : Scenario → ℕ → Submission
submission_of t job = slice_index_or t.submissions job nothing_submitted

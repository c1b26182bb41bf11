-- What a trace says of the jobs that are taken.
use Rattle.std.specs.Prelude.{◌≡◌, ℕ, Bool, true, false, List, [], length, map, nat_lt, slice_index_or, Option, Some, None, Ok, if◌then◌else◌}
use Rattle.tetri_cluster.specs.Cluster.{names_of}
use Rattle.tetri_cluster.specs.declared.cluster.NodeText.{NodeText}
use Rattle.tetri_request.specs.declared.ask.Ask.{Ask}
use Rattle.tetri_trace.specs.Scenario.{Demand, Submission, asks, strl}
use Rattle.tetri_trace.specs.Lines.{scenario_in}
use Rattle.tetri_trace.specs.Scenario.{Scenario}
use Rattle.tetri_notice.specs.declared.header.Header.{Header}
use Rattle.tetri_workload.specs.Kinds.{are_mixed, members}
use Rattle.tetri_workload.specs.Taking.{Tally}
use Rattle.tetri_logs.specs.declared.options.Settings.{Settings}

-- the limits of a run of so many slots
abbrev pub header_of : Settings → ℕ → Header
header_of s until = record { window = s.window; budget = s.budget; until = until; unit = s.unit }

-- an ask, where set 0 stands for its own if nodes differ
abbrev pub bare_ask : Bool → Ask → Ask
bare_ask false a = a
bare_ask true a = record a { set = 0 }

abbrev pub bare_demand : Bool → Demand → Demand
bare_demand mixed (strl tree) = strl tree
bare_demand mixed (asks a) = asks (bare_ask mixed a)

abbrev pub bare : Bool → Submission → Submission
bare mixed u = record u { demand = bare_demand mixed u.demand }

-- the nodes that a job may use
abbrev pub nodes_by : List (List ℕ) → Demand → Option (List ℕ)
nodes_by sets (strl tree) = None
nodes_by sets (asks a) = if nat_lt a.set (length sets) then Some (slice_index_or sets a.set []) else None

abbrev pub nodes_asked : List (List ℕ) → Submission → Option (List ℕ)
nodes_asked sets u = nodes_by sets u.demand

-- the nodes of a set
abbrev pub nodes_wanted : List NodeText → List ℕ → Option (List ℕ)
nodes_wanted nodes set = Some (members nodes set)

-- A trace has these nodes, by their names, and each of its jobs may use those of its set.
pub record IsSeated (nodes : List NodeText) (sets : List (List ℕ)) (said : Scenario) : Type 0 where
  pub named : names_of said.nodes ≡ names_of nodes
  pub seated : map (nodes_asked said.sets) said.submissions ≡ map (nodes_wanted nodes) sets

-- the same where nodes differ
abbrev pub SeatedIf : Bool → List NodeText → List (List ℕ) → Scenario → Type 0
SeatedIf false nodes sets said = Unit {0}
SeatedIf true nodes sets said = IsSeated nodes sets said

abbrev pub AreSeated : List NodeText → List (List ℕ) → Scenario → Type 0
AreSeated nodes sets said = SeatedIf (are_mixed nodes) nodes sets said

-- A trace says what was taken: these jobs, and what happens to them, on so many nodes.
pub record SaysMost (s : Settings) (mixed : Bool) (t : Tally) (said : Scenario) : Type 0 where
  pub header : said.header ≡ header_of s t.until
  pub count : length said.nodes ≡ s.nodes
  pub jobs : map (bare mixed) said.submissions ≡ t.jobs
  pub events : said.events ≡ t.events

-- the same, and where nodes differ, on these, each with its set
pub record Says (s : Settings) (nodes : List NodeText) (t : Tally) (said : Scenario) : Type 0 where
  pub most : SaysMost s (are_mixed nodes) t said
  pub seated : AreSeated nodes t.sets said

-- a text is read as a trace that says what was taken
abbrev pub IsReadAs : Settings → List NodeText → Tally → List ℕ → Type 0
IsReadAs s nodes t text = (said : Scenario) × (scenario_in text ≡ Ok said) × Says s nodes t said

-- a job that asks for nodes by number, as each job of a log does
abbrev pub IsAsked : Demand → Type 0
IsAsked (strl tree) = ⊥
IsAsked (asks a) = Unit {0}

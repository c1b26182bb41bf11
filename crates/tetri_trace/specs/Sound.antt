-- Which traces are sound.
use Rattle.std.specs.Prelude.{◌≡◌, ◌≢◌, ◌+◌, ◌<◌, ◌≤◌, ℕ, pos, negsuc, ◌≤ℤ◌, true, All, AllPairs, Contains, length}
use Rattle.tetri_request.specs.declared.ask.Ask.{Ask}
use Rattle.tetri_request.specs.Options.{IsSetOf, IsSoundAsk}
use Rattle.tetri_strl.specs.Tree.{Tree, leaves}
use Rattle.tetri_strl.specs.WellMade.{IsWellMade}
use Rattle.tetri_cluster.specs.Names.{is_name, differ}
use Rattle.tetri_cluster.specs.Cluster.{names_of}
use Rattle.tetri_cluster.specs.Sets.{AreSets}
use Rattle.tetri_space.specs.Closed.{AreSoundClosures}
use Rattle.tetri_notice.specs.Headers.{IsSoundHeader}
use Rattle.tetri_trace.specs.declared.trace.Event.{Event}
use Rattle.tetri_trace.specs.declared.trace.Happening.{Happening}
use Rattle.tetri_trace.specs.declared.trace.Happening.TheVariants.{Arrive, Cancel, Drain, Undrain, Fail}
use Rattle.tetri_trace.specs.Scenario.{Demand, strl, asks, Submission, Scenario, job_names, submission_of}

-- a well-made expression over the first so many sets, which starts within 10,000 slots of the arrival
pub record IsExpressionOver (sets arrival : ℕ) (t : Tree) : Type 0 where
  pub well_made : IsWellMade t
  pub known_sets : All (λ l. l.set < sets) (leaves t)
  pub starts : All (λ l. (arrival ≤ l.start) × (l.start ≤ arrival + 10000)) (leaves t)

-- an ask within its limits, over the first so many sets
pub record IsAskOver (sets : ℕ) (a : Ask) : Type 0 where
  pub sound : IsSoundAsk a
  pub known_sets : (set : ℕ) → IsSetOf a set → set < sets

abbrev pub IsSoundDemand : ℕ → ℕ → Demand → Type 0
IsSoundDemand sets arrival (strl t) = IsExpressionOver sets arrival t
IsSoundDemand sets arrival (asks a) = IsAskOver sets a

pub record IsSoundSubmission (s : Scenario) (j : Submission) : Type 0 where
  pub named : is_name j.name ≡ true
  pub in_run : j.arrival < s.header.until
  pub not_too_early : negsuc 9999 ≤ℤ j.late
  pub not_too_late : j.late ≤ℤ pos 10000
  pub demand : IsSoundDemand (length s.sets) j.arrival j.demand

-- the number names a job or a node that is there
abbrev pub NamesKnown : Scenario → Happening → Type 0
NamesKnown s (Arrive job) = job < length s.submissions
NamesKnown s (Cancel job) = job < length s.submissions
NamesKnown s (Drain node) = node < length s.nodes
NamesKnown s (Undrain node) = node < length s.nodes
NamesKnown s (Fail node) = node < length s.nodes

-- the first is not of the job that the second brings
abbrev pub BringsNew : Happening → Happening → Type 0
BringsNew (Arrive job) (Arrive other) = job ≢ other
BringsNew (Cancel job) (Arrive other) = job ≢ other
BringsNew _ _ = Unit {0}

-- a job arrives at this slot
abbrev pub arrival_at : ℕ → ℕ → Event
arrival_at at job = record { at = at; what = Arrive job }

-- a job that arrives does so at its slot
abbrev pub ArrivesOnTime : Scenario → ℕ → Happening → Type 0
ArrivesOnTime s at (Arrive job) = (submission_of s job).arrival ≡ at
ArrivesOnTime s at (Cancel job) = Unit {0}
ArrivesOnTime s at (Drain node) = Unit {0}
ArrivesOnTime s at (Undrain node) = Unit {0}
ArrivesOnTime s at (Fail node) = Unit {0}

pub record IsSound (s : Scenario) : Type 0 where
  pub header : IsSoundHeader s.header
  pub some_nodes : 1 ≤ length s.nodes
  pub few_nodes : length s.nodes ≤ 4096
  pub node_names : All (λ name. is_name name ≡ true) (names_of s.nodes)
  pub nodes_differ : differ (names_of s.nodes) ≡ true
  pub sets : AreSets s.sets
  pub few_sets : length s.sets ≤ 4096
  pub known_nodes : All (All (λ n. n < length s.nodes)) s.sets
  pub closures : AreSoundClosures (length s.nodes) s.closures
  pub few_jobs : length s.submissions ≤ 100000
  pub jobs_differ : differ (job_names s.submissions) ≡ true
  pub jobs_ascend : AllPairs (λ i j. i.arrival ≤ j.arrival) s.submissions
  pub jobs : All (IsSoundSubmission s) s.submissions
  pub events_ascend : AllPairs (λ e f. e.at ≤ f.at) s.events
  pub in_run : All (λ e. e.at < s.header.until) s.events
  pub known : All (λ e. NamesKnown s e.what) s.events
  -- each job arrives at its slot, and no event of it comes before: it arrives once, and is cancelled later
  pub arrivals : (job : ℕ) → job < length s.submissions → Contains s.events (arrival_at (submission_of s job).arrival job)
  pub fresh : AllPairs (λ e f. BringsNew e.what f.what) s.events

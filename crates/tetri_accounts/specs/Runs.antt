-- The rows of a run.
use Rattle.std.specs.Prelude.{ℕ, ◌+◌, ◌*◌, List, [], ◌∷◌, ◌++◌, if◌then◌else◌, map, length, unwrap_or}
use Rattle.std.specs.List.Sorted.{IsNonDecreasingBy, IsPermutation}
use Rattle.tetri_report.specs.Block.{Block}
use Rattle.tetri_cycles.specs.Observed.{next}
use Rattle.tetri_state.specs.After.{new_pieces}
use Rattle.tetri_state.specs.Begin.{occurring}
use Rattle.tetri_state.specs.Launch.{launched_bids}
use Rattle.tetri_state.specs.Planning.{instance_at}
use Rattle.tetri_state.specs.Snapshot.{Snapshot, opening_state}
use Rattle.tetri_trace.specs.Scenario.{Scenario}
use Rattle.tetri_accounts.specs.Rows.{closed_as, departing, goes_on, idle_rows, outcome_of, row_of}
use Rattle.tetri_accounts.specs.declared.row.Row.{Row}
use Rattle.tetri_accounts.specs.declared.row.Departure.{Departure}
use Rattle.tetri_accounts.specs.declared.row.CycleNote.{CycleNote}

-- the launches of a cycle that begins in this state
abbrev pub launches : Scenario → Snapshot → Block → List Row
launches t s b = map (row_of b.grants (new_pieces t (instance_at t s) b.grants) s.now) (launched_bids (instance_at t s) b.grants)

-- what is noted of a cycle that begins in this state
abbrev pub note_of : Scenario → Snapshot → Block → CycleNote
note_of t s b = record { jobs = length (instance_at t s).bids; value = b.value; bound = b.bound; mark = b.mark; nodes = b.nodes }

-- A launch that runs in this state, where these cycles are still to come: it ends in the first slot at whose beginning it runs on no
-- more, as it does there, and else it runs as the run ends.
abbrev pub finished : Scenario → Snapshot → List Block → Row → Row
finished t s [] r = r
finished t s (b ∷ bs) r =
    if goes_on (outcome_of (occurring t s) s.now r) then finished t (next t s b) bs r else closed_as s.now (outcome_of (occurring t s) s.now r) r

-- the launches of the cycles that are still to come from this state on, each as it ends, in the order of their slots
abbrev pub launch_rows : Scenario → Snapshot → List Block → List Row
launch_rows t s [] = []
launch_rows t s (b ∷ bs) = map (finished t (next t s b) bs) (launches t s b) ++ launch_rows t (next t s b) bs

-- the jobs that are cancelled or expire from this state on
abbrev pub departures : Scenario → Snapshot → List Block → List Departure
departures t s [] = []
departures t s (b ∷ bs) = departing (occurring t s) s.now ++ departures t (next t s b) bs

-- what is noted of the cycles from this state on
abbrev pub notes : Scenario → Snapshot → List Block → List CycleNote
notes t s [] = []
notes t s (b ∷ bs) = note_of t s b ∷ notes t (next t s b) bs

-- One row for each launch of the run with these cycles, and one for each job without a launch, and no other.
abbrev pub rows_in : Scenario → List Block → List Row
rows_in t bs = launch_rows t (opening_state t) bs
    ++ idle_rows (length t.submissions) (launch_rows t (opening_state t) bs) (departures t (opening_state t) bs)

-- by job, and then by the slot of the launch
abbrev pub place_of : Row → ℕ
place_of r = r.job * 4294967296 + unwrap_or r.start 0

-- These are the rows of the run with these cycles, by job and then by the slot of the launch.
pub record AreRows (t : Scenario) (bs : List Block) (rows : List Row) : Type 0 where
  pub one_each : IsPermutation (rows_in t bs) rows
  pub in_order : IsNonDecreasingBy place_of rows

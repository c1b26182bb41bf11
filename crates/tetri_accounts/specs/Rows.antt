-- The rows of launches, slot by slot.
use Rattle.std.specs.Prelude.{ℕ, List, [], ◌∷◌, ◌++◌, ◌==◌, Bool, true, false, not, nat_lt, if◌then◌else◌, map, filter, find, flat_map, slice_index_or, Option, Some, None}
use Rattle.std.specs.List.{list_all, list_any, range_with_len}
use Rattle.tetri_base.specs.Lists.{has}
use Rattle.tetri_space.specs.Space.{Bid}
use Rattle.tetri_space.specs.Total.{bid_worth}
use Rattle.tetri_state.specs.Begin.{Occurrences, has_ended}
use Rattle.tetri_state.specs.declared.pieces.Piece.{Piece}
use Rattle.tetri_strl.specs.declared.grants.Grant.{Grant}
use Rattle.tetri_accounts.specs.declared.row.Outcome.{Outcome}
use Rattle.tetri_accounts.specs.declared.row.Outcome.TheVariants.{Ran, Overran, Failed, Cancelled, Expired, Waiting, Running}
use Rattle.tetri_accounts.specs.declared.row.Row.{Row}
use Rattle.tetri_accounts.specs.declared.row.Departure.{Departure}

-- the piece really runs longer than it was expected to as it was launched
abbrev pub is_late : Piece → Bool
is_late p = nat_lt p.expected p.real

-- how pieces end of which each has ended
abbrev pub ended_as : List Piece → Outcome
ended_as pieces = if list_any is_late pieces then Overran else Ran

-- what becomes of a launch of a job with these pieces that runs before a slot, at whose beginning these jobs fail and these are cancelled
abbrev pub outcome_by : List ℕ → List ℕ → ℕ → ℕ → List Piece → Outcome
outcome_by failed cancelled now job pieces =
    if list_all (has_ended now) pieces then ended_as pieces
    else (if has failed job then Failed
    else (if has cancelled job then Cancelled else Running))

-- the same of a slot at whose beginning this happens
abbrev pub outcome_of : Occurrences → ℕ → Row → Outcome
outcome_of o now r = outcome_by o.failed o.cancelled now r.job r.pieces

abbrev pub goes_on : Outcome → Bool
goes_on Running = true
goes_on _ = false

-- a launch that ran up to this slot, and what became of it
abbrev pub closed_as : ℕ → Outcome → Row → Row
closed_as now outcome r = record { job = r.job; outcome = outcome; start = r.start; end = Some now; worth = r.worth; pieces = r.pieces }

-- the launches that run on
abbrev pub staying : Occurrences → ℕ → List Row → List Row
staying o now rows = filter (λ r. goes_on (outcome_of o now r)) rows

-- those that do not, up to this slot
abbrev pub leaving : Occurrences → ℕ → List Row → List Row
leaving o now rows = map (λ r. closed_as now (outcome_of o now r) r) (filter (λ r. not (goes_on (outcome_of o now r))) rows)

-- the launch of a job in this slot, by the grants of its cycle and the pieces that these become
abbrev pub row_of : List Grant → List Piece → ℕ → Bid → Row
row_of grants pieces now b = record {
  job = b.job;
  outcome = Running;
  start = Some now;
  end = None;
  worth = bid_worth grants b;
  pieces = filter (λ p. p.job == b.job) pieces;
}

-- the jobs that are cancelled or expire in a slot, at whose beginning this happens
abbrev pub gone_at : ℕ → Outcome → ℕ → Departure
gone_at now outcome job = record { job = job; at = now; outcome = outcome }

abbrev pub departing : Occurrences → ℕ → List Departure
departing o now = map (gone_at now Cancelled) o.cancelled ++ map (gone_at now Expired) o.expired

-- a job without a launch, by its departure, if it has one
abbrev pub idle_by : ℕ → Option Departure → Row
idle_by job None = record { job = job; outcome = Waiting; start = None; end = None; worth = 0; pieces = [] }
idle_by job (Some d) = record { job = job; outcome = d.outcome; start = None; end = Some d.at; worth = 0; pieces = [] }

-- one of the rows is the job's
abbrev pub has_row : List Row → ℕ → Bool
has_row rows job = list_any (λ r. r.job == job) rows

-- the job's row, where none of these is its own
abbrev pub idle_row : List Row → List Departure → ℕ → List Row
idle_row rows gone job = if has_row rows job then [] else idle_by job (find (λ d. d.job == job) gone) ∷ []

-- the jobs of which none of these rows is
abbrev pub idle_rows : ℕ → List Row → List Departure → List Row
idle_rows jobs rows gone = flat_map (idle_row rows gone) (range_with_len 0 jobs)

-- the same by what is known of each job: whether one of the rows is its own, and its first departure
abbrev pub idle_at : List Bool → List (Option Departure) → ℕ → List Row
idle_at have first job = if slice_index_or have job false then [] else idle_by job (slice_index_or first job None) ∷ []

-- The jobs that are taken.
use Rattle.std.specs.Prelude.{ℕ, ◌+◌, ◌==◌, ◌||◌, ◌&&◌, Bool, false, min, max, nat_le, nat_lt, List, [], ◌∷◌, ◌++◌, length, map, fold, slice_get, Option, Some, None, Result, Ok, Err, if◌then◌else◌}
use Rattle.tetri_cluster.specs.Names.{is_among, is_name, number_of}
use Rattle.tetri_logs.specs.declared.entry.Cause.{Cause}
use Rattle.tetri_logs.specs.declared.entry.Cause.TheVariants.{Outside, Repeated, Beyond}
use Rattle.tetri_logs.specs.declared.entry.LoggedJob.{LoggedJob}
use Rattle.tetri_logs.specs.declared.entry.Reject.{Reject}
use Rattle.tetri_trace.specs.Scenario.{Submission, asks, job_names, submission}
use Rattle.tetri_trace.specs.declared.trace.Event.{Event}
use Rattle.tetri_trace.specs.declared.trace.Happening.TheVariants.{Arrive, Cancel}
use Rattle.tetri_logs.specs.Placing.{place}
use Rattle.tetri_logs.specs.declared.options.Settings.{Settings}
use Rattle.tetri_logs.specs.declared.placing.Placing.{Placing}
use Rattle.tetri_workload.specs.Notes.{AreNoted, again_name}
use Rattle.tetri_workload.specs.declared.taking.Taken.{Taken}

-- the jobs that are taken, in order of submission, the second of each submission, with what happens to each, why others are left out, how many slots a run has, on
-- which lines jobs stand that take a whole node for fewer processors, and the set of each job
pub record Tally : Type 0 where
  pub jobs : List Submission
  pub submits : List ℕ
  pub events : List Event
  pub left : List Reject
  pub until : ℕ
  pub rounded : List ℕ
  pub sets : List (List ℕ)

abbrev pub so_far : Taken → Tally
so_far t = record { jobs = map submission t.jobs; submits = t.submits.items; events = t.events.items; left = t.left.items; until = t.until; rounded = t.rounded.items; sets = t.sets.items }

-- what is noted of the jobs that are taken holds of them
abbrev pub IsNoted : Taken → Type 0
IsNoted t = AreNoted t.notes t.submits.items (job_names (map submission t.jobs))

abbrev pub nothing_taken : Tally
nothing_taken = record { jobs = []; submits = []; events = []; left = []; until = 1; rounded = []; sets = [] }

abbrev pub left_out : Tally → ℕ → Cause → Tally
left_out t line cause = record t { left = t.left ++ (record { line = line; cause = cause }) ∷ [] }

-- with these left out
abbrev pub with_left : Tally → List Reject → Tally
with_left t left = record t { left = left }

-- a job with this name at its place
abbrev pub submitted : List ℕ → Placing → Submission
submitted name p = record { name = name; arrival = p.arrival; late = p.late; demand = asks p.ask }

abbrev pub cancels_of : ℕ → Option ℕ → List Event
cancels_of number None = []
cancels_of number (Some slot) = record { at = slot; what = Cancel number } ∷ []

-- the arrival of a job, and its cancellation
abbrev pub events_of : ℕ → Placing → List Event
events_of number p = record { at = p.arrival; what = Arrive number } ∷ cancels_of number p.cancel

abbrev pub last_of : ℕ → Option ℕ → ℕ
last_of deadline None = deadline
last_of deadline (Some slot) = max deadline slot

-- one more than the last slot of a job, at most 10,000
abbrev pub end_of : Placing → ℕ
end_of p = min (last_of (p.arrival + p.ask.deadline) p.cancel) 9999 + 1

-- the line of a job, where it takes a whole node for fewer processors
abbrev pub rounded_of : ℕ → Placing → List ℕ
rounded_of line p = if p.part_node then line ∷ [] else []

abbrev pub taken : Tally → ℕ → ℕ → List ℕ → List ℕ → Placing → Tally
taken t line submit name set p = record {
  jobs = t.jobs ++ submitted name p ∷ [];
  submits = t.submits ++ submit ∷ [];
  events = t.events ++ events_of (length t.jobs) p;
  left = t.left;
  until = max t.until (end_of p);
  rounded = t.rounded ++ rounded_of line p;
  sets = t.sets ++ set ∷ [];
}

-- whether so many jobs are there as are wanted or possible
abbrev pub is_full : Settings → Tally → Bool
is_full s t = nat_le s.most (length t.jobs) || nat_le 100000 (length t.jobs)

-- whether more jobs are wanted than are possible, and so many are there
abbrev pub is_beyond : Settings → Tally → Bool
is_beyond s t = nat_le 100000 (length t.jobs) && nat_lt (length t.jobs) s.most

-- a job is taken under a name unless so many are there as are wanted or possible
abbrev pub kept : Settings → Tally → ℕ → ℕ → List ℕ → List ℕ → Placing → Tally
kept s t line submit name set p =
    if nat_le s.most (length t.jobs) then left_out t line Outside
    else (if nat_le 100000 (length t.jobs) then left_out t line Beyond else taken t line submit name set p)

-- a job that was submitted again is taken under that name, unless one has it
abbrev pub again : Settings → Tally → ℕ → ℕ → List ℕ → List ℕ → Placing → Tally
again s t line submit name set p =
    if is_name name then (if is_among name (job_names t.jobs) then left_out t line Repeated else kept s t line submit name set p) else left_out t line Beyond

-- whether it was submitted in this second
abbrev pub is_second : Option ℕ → ℕ → Bool
is_second None submit = false
is_second (Some second) submit = second == submit

-- where an earlier job has its name, a job is that one once more if both were submitted in one second, and else it was submitted again
abbrev pub named : Settings → Tally → ℕ → ℕ → List ℕ → List ℕ → Placing → Option ℕ → Tally
named s t line submit name set p None = kept s t line submit name set p
named s t line submit name set p (Some number) =
    if is_second (slice_get t.submits number) submit then left_out t line Repeated else again s t line submit (again_name name submit) set p

abbrev pub with_placed : Settings → Tally → ℕ → ℕ → List ℕ → List ℕ → Result Placing Cause → Tally
with_placed s t line submit name set (Err cause) = left_out t line cause
with_placed s t line submit name set (Ok p) = named s t line submit name set p (number_of name (job_names t.jobs))

-- with one job of the log more
abbrev pub with_logged : Settings → Tally → LoggedJob → Tally
with_logged s t job = with_placed s t job.line job.account.submit job.name job.set (place s job.account)

-- what is taken of jobs in this order
abbrev pub taken_all : Settings → List LoggedJob → Tally
taken_all s jobs = fold (with_logged s) nothing_taken jobs

-- The second with which slot 0 begins.
use Rattle.std.specs.Prelude.{ℕ, ◌*◌, ◌+◌, Bool, nat_le, nat_lt, List, [], ◌∷◌, Option, Some, None, is_ok, is_some, if◌then◌else◌}
use Rattle.tetri_logs.specs.Placing.{place}
use Rattle.tetri_logs.specs.Scale.{moment_of}
use Rattle.tetri_logs.specs.declared.account.Account.{Account}
use Rattle.tetri_logs.specs.declared.entry.LoggedJob.{LoggedJob}
use Rattle.tetri_logs.specs.declared.options.Options.{Options}
use Rattle.tetri_logs.specs.declared.options.Settings.{Settings}

-- with slot 0 at this second
abbrev pub begun_at : Settings → ℕ → Settings
begun_at s second = record s { origin = second }

-- whether a job would have a place if slot 0 began with it
abbrev pub may_begin : Settings → Account → Bool
may_begin s a = is_ok (place (begun_at s (moment_of s a)) a)

-- when the first of these jobs was submitted that may begin, 0 where there is none
abbrev pub first_second : Settings → List LoggedJob → ℕ
first_second s [] = 0
first_second s (job ∷ jobs) = if may_begin s job.account then moment_of s job.account else first_second s jobs

-- with slot 0 at that second; the jobs are in order of submission
abbrev pub begun : Settings → List LoggedJob → Settings
begun s jobs = begun_at s (first_second s jobs)

-- with slot 0 at the submission of a job, if it may begin
abbrev pub begun_with : Settings → Account → Option Settings
begun_with s a = if may_begin s a then Some (begun_at s (moment_of s a)) else None

-- whether a job comes early enough for the trace
abbrev pub is_in_run : Settings → Account → Bool
is_in_run s a = nat_lt (moment_of s a) (s.origin + 10000 * s.slot)

-- when the last of these jobs was submitted that may begin, this second where there is none
abbrev pub last_second : Settings → ℕ → List LoggedJob → ℕ
last_second s second [] = second
last_second s second (job ∷ jobs) = last_second s (if may_begin s job.account then moment_of s job.account else second) jobs

-- the gap from one second to another, if it is as long as a trace
abbrev pub gap_at : Settings → ℕ → ℕ → Option ℕ
gap_at s last moment = if nat_le (last + 10000 * s.slot) moment then Some moment else None

-- When the first job was submitted that comes too late for the trace, if it comes so long behind the one before it as a trace is long. Jobs
-- that may not begin count for nothing; `last` is when the one before these was submitted, and slot 0 begins at `s.origin`.
abbrev pub gap_after : Settings → ℕ → List LoggedJob → Option ℕ
gap_after s last [] = None
gap_after s last (job ∷ jobs) =
    let moment = moment_of s job.account in
    if may_begin s job.account
    then (if nat_lt moment (s.origin + 10000 * s.slot) then gap_after s moment jobs else gap_at s last moment)
    else gap_after s last jobs

-- the same for all jobs, where slot 0 is known; nothing where the caller says when the wanted part begins
abbrev pub gap_of : Options → Settings → List LoggedJob → Option ℕ
gap_of o s jobs = if is_some o.from then None else gap_after s s.origin jobs

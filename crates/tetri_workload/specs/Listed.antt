-- Jobs of a list.
use Rattle.std.specs.Prelude.{ℕ, List, [], filter, map, nat_le, nat_lt, slice_index_or, None}
use Rattle.tetri_logs.specs.declared.entry.LoggedJob.{LoggedJob}
use Rattle.tetri_workload.specs.declared.listed.Listed.{Listed}

-- those that were submitted before this second
abbrev pub jobs_before : ℕ → List LoggedJob → List LoggedJob
jobs_before second jobs = filter (λ j. nat_lt j.account.submit second) jobs

-- those that were submitted in this second or later
abbrev pub jobs_from : ℕ → List LoggedJob → List LoggedJob
jobs_from second jobs = filter (λ j. nat_le second j.account.submit) jobs

-- one that stands for a job behind the end of a list
abbrev no_job : LoggedJob
no_job = record { line = 0; name = []; account = record { submit = 0; nodes = None; processors = None; limit = 0; ran = None; waited = None; room = None }; set = [] }

-- the job of a list that stands at a place
abbrev pub job_at : List LoggedJob → Listed → LoggedJob
job_at jobs l = slice_index_or jobs l.place no_job

-- the jobs of a list that stand at some places
abbrev pub jobs_at : List LoggedJob → List Listed → List LoggedJob
jobs_at jobs listed = map (job_at jobs) listed

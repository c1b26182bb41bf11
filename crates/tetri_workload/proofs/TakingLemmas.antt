-- Each job is taken or left out, and what is taken asks for nodes by number.
use Rattle.std.proofs.Common.{◌≡◌, ◌+◌, ◌∷◌, [], ℕ, List, Bool, true, false, cond, length, arith, length-append}
use Rattle.std.specs.Prelude.{All, Option, Some, None, Result, Ok, Err, fold, nat_le, slice_get}
use Rattle.std.proofs.lemmas.List.Elements.{All-append, All-cons, All-nil}
use Rattle.tetri_cluster.specs.Names.{is_among, is_name, number_of}
use Rattle.tetri_logs.specs.declared.entry.Cause.{Cause}
use Rattle.tetri_logs.specs.declared.entry.Cause.TheVariants.{Outside, Repeated, Beyond}
use Rattle.tetri_logs.specs.declared.entry.LoggedJob.{LoggedJob}
use Rattle.tetri_logs.specs.Placing.{place}
use Rattle.tetri_logs.specs.declared.options.Settings.{Settings}
use Rattle.tetri_logs.specs.declared.placing.Placing.{Placing}
use Rattle.tetri_trace.specs.Scenario.{job_names}
use Rattle.tetri_workload.specs.Saying.{IsAsked}
use Rattle.tetri_workload.specs.Notes.{again_name}
use Rattle.tetri_workload.specs.Taking.{Tally, again, is_second, kept, left_out, named, nothing_taken, submitted, taken, taken_all, with_logged, with_placed}

-- how many jobs are taken or left out
abbrev size_of : Tally → ℕ
size_of t = length t.jobs + length t.left

one_left : (t : Tally) (line : ℕ) (cause : Cause) → size_of (left_out t line cause) ≡ size_of t + 1
one_left t line cause = omega (arith, length-append t.left (record { line = line; cause = cause } ∷ []))

one_taken : (t : Tally) (line submit : ℕ) (name set : List ℕ) (p : Placing) → size_of (taken t line submit name set p) ≡ size_of t + 1
one_taken t line submit name set p = omega (arith, length-append t.jobs (submitted name p ∷ []))

one_chosen : (b c : Bool) (t : Tally) (line submit : ℕ) (name set : List ℕ) (p : Placing) → size_of (cond b (left_out t line Outside) (cond c (left_out t line Beyond) (taken t line submit name set p))) ≡ size_of t + 1
one_chosen true c t line submit name set p = one_left t line Outside
one_chosen false true t line submit name set p = one_left t line Beyond
one_chosen false false t line submit name set p = one_taken t line submit name set p

one_kept : (s : Settings) (t : Tally) (line submit : ℕ) (name set : List ℕ) (p : Placing) → size_of (kept s t line submit name set p) ≡ size_of t + 1
one_kept s t line submit name set p = one_chosen (nat_le s.most (length t.jobs)) (nat_le 100000 (length t.jobs)) t line submit name set p

one_read : (a b : Bool) (s : Settings) (t : Tally) (line submit : ℕ) (name set : List ℕ) (p : Placing) → size_of (cond a (cond b (left_out t line Repeated) (kept s t line submit name set p)) (left_out t line Beyond)) ≡ size_of t + 1
one_read true true s t line submit name set p = one_left t line Repeated
one_read true false s t line submit name set p = one_kept s t line submit name set p
one_read false b s t line submit name set p = one_left t line Beyond

one_again : (s : Settings) (t : Tally) (line submit : ℕ) (name set : List ℕ) (p : Placing) → size_of (again s t line submit name set p) ≡ size_of t + 1
one_again s t line submit name set p = one_read (is_name name) (is_among name (job_names t.jobs)) s t line submit name set p

one_once : (b : Bool) (s : Settings) (t : Tally) (line submit : ℕ) (name set : List ℕ) (p : Placing) → size_of (cond b (left_out t line Repeated) (again s t line submit name set p)) ≡ size_of t + 1
one_once true s t line submit name set p = one_left t line Repeated
one_once false s t line submit name set p = one_again s t line submit name set p

one_named : (s : Settings) (t : Tally) (line submit : ℕ) (name set : List ℕ) (p : Placing) (number : Option ℕ) → size_of (named s t line submit name set p number) ≡ size_of t + 1
one_named s t line submit name set p None = one_kept s t line submit name set p
one_named s t line submit name set p (Some number) = one_once (is_second (slice_get t.submits number) submit) s t line submit (again_name name submit) set p

one_placed : (s : Settings) (t : Tally) (line submit : ℕ) (name set : List ℕ) (r : Result Placing Cause) → size_of (with_placed s t line submit name set r) ≡ size_of t + 1
one_placed s t line submit name set (Err cause) = one_left t line cause
one_placed s t line submit name set (Ok p) = one_named s t line submit name set p (number_of name (job_names t.jobs))

sizes : (s : Settings) (t : Tally) (jobs : List LoggedJob) → size_of (fold (with_logged s) t jobs) ≡ size_of t + length jobs
sizes s t [] = omega arith
sizes s t (job ∷ jobs) = omega (arith, sizes s (with_logged s t job) jobs, one_placed s t job.line job.account.submit job.name job.set (place s job.account))

pub all_taken_or_left : (s : Settings) (jobs : List LoggedJob) → length (taken_all s jobs).jobs + length (taken_all s jobs).left ≡ length jobs
all_taken_or_left s jobs = omega (arith, sizes s nothing_taken jobs)

-- each job that is taken asks for nodes by number
abbrev Asks : Tally → Type 0
Asks t = All (λ u. IsAsked u.demand) t.jobs

asks_taken : (t : Tally) (line submit : ℕ) (name set : List ℕ) (p : Placing) → Asks t → Asks (taken t line submit name set p)
asks_taken t line submit name set p before = All-append (λ u. IsAsked u.demand) t.jobs (submitted name p ∷ []) before (All-cons (λ u. IsAsked u.demand) (submitted name p) [] tt (All-nil (λ u. IsAsked u.demand)))

asks_chosen : (b c : Bool) (t : Tally) (line submit : ℕ) (name set : List ℕ) (p : Placing) → Asks t → Asks (cond b (left_out t line Outside) (cond c (left_out t line Beyond) (taken t line submit name set p)))
asks_chosen true c t line submit name set p before = before
asks_chosen false true t line submit name set p before = before
asks_chosen false false t line submit name set p before = asks_taken t line submit name set p before

asks_kept : (s : Settings) (t : Tally) (line submit : ℕ) (name set : List ℕ) (p : Placing) → Asks t → Asks (kept s t line submit name set p)
asks_kept s t line submit name set p before = asks_chosen (nat_le s.most (length t.jobs)) (nat_le 100000 (length t.jobs)) t line submit name set p before

asks_read : (a b : Bool) (s : Settings) (t : Tally) (line submit : ℕ) (name set : List ℕ) (p : Placing) → Asks t → Asks (cond a (cond b (left_out t line Repeated) (kept s t line submit name set p)) (left_out t line Beyond))
asks_read true true s t line submit name set p before = before
asks_read true false s t line submit name set p before = asks_kept s t line submit name set p before
asks_read false b s t line submit name set p before = before

asks_once : (b : Bool) (s : Settings) (t : Tally) (line submit : ℕ) (name set : List ℕ) (p : Placing) → Asks t → Asks (cond b (left_out t line Repeated) (again s t line submit name set p))
asks_once true s t line submit name set p before = before
asks_once false s t line submit name set p before = asks_read (is_name name) (is_among name (job_names t.jobs)) s t line submit name set p before

asks_named : (s : Settings) (t : Tally) (line submit : ℕ) (name set : List ℕ) (p : Placing) (number : Option ℕ) → Asks t → Asks (named s t line submit name set p number)
asks_named s t line submit name set p None before = asks_kept s t line submit name set p before
asks_named s t line submit name set p (Some number) before = asks_once (is_second (slice_get t.submits number) submit) s t line submit (again_name name submit) set p before

asks_placed : (s : Settings) (t : Tally) (line submit : ℕ) (name set : List ℕ) (r : Result Placing Cause) → Asks t → Asks (with_placed s t line submit name set r)
asks_placed s t line submit name set (Err cause) before = before
asks_placed s t line submit name set (Ok p) before = asks_named s t line submit name set p (number_of name (job_names t.jobs)) before

asks_from : (s : Settings) (t : Tally) (jobs : List LoggedJob) → Asks t → Asks (fold (with_logged s) t jobs)
asks_from s t [] before = before
asks_from s t (job ∷ jobs) before = asks_from s (with_logged s t job) jobs (asks_placed s t job.line job.account.submit job.name job.set (place s job.account) before)

pub all_asked : (s : Settings) (jobs : List LoggedJob) → All (λ u. IsAsked u.demand) (taken_all s jobs).jobs
all_asked s jobs = asks_from s nothing_taken jobs (All-nil (λ u. IsAsked u.demand))

-- What is left out behind a trace that is full, and what a job adds to what is left out.
use Rattle.std.proofs.Common.{◌≡◌, ◌∙◌, ◌++◌, ◌∷◌, [], List, Bool, ℕ, true, false, cond, length, map, refl, ap, sym, append_assoc}
use Rattle.std.specs.Prelude.{◌||◌, All, Option, Some, None, Result, Ok, Err, fold, is_ok, nat_le, slice_get, if◌then◌else◌}
use Rattle.std.proofs.lemmas.List.{append-nil}
use Rattle.std.proofs.lemmas.List.Elements.{All-cons, All-nil}
use Rattle.tetri_cluster.specs.Names.{is_among, is_name, number_of}
use Rattle.tetri_logs.specs.declared.entry.Cause.{Cause}
use Rattle.tetri_logs.specs.declared.entry.Cause.TheVariants.{Outside, Repeated, Beyond}
use Rattle.tetri_logs.specs.declared.entry.LoggedJob.{LoggedJob}
use Rattle.tetri_logs.specs.declared.entry.Reject.{Reject}
use Rattle.tetri_logs.specs.Placing.{place}
use Rattle.tetri_logs.specs.declared.options.Settings.{Settings}
use Rattle.tetri_logs.specs.declared.placing.Placing.{Placing}
use Rattle.tetri_trace.specs.Scenario.{job_names}
use Rattle.tetri_workload.specs.Notes.{again_name}
use Rattle.tetri_workload.specs.Taking.{Tally, again, is_full, is_second, kept, left_out, named, taken, with_left, with_logged, with_placed}

-- ---- why a job is left out
abbrev kept_cause : Settings → Tally → Cause
kept_cause s t = if nat_le s.most (length t.jobs) then Outside else Beyond

abbrev again_cause : Settings → Tally → List ℕ → Cause
again_cause s t name = if is_name name then (if is_among name (job_names t.jobs) then Repeated else kept_cause s t) else Beyond

abbrev named_cause : Settings → Tally → ℕ → List ℕ → Option ℕ → Cause
named_cause s t submit name None = kept_cause s t
named_cause s t submit name (Some number) = if is_second (slice_get t.submits number) submit then Repeated else again_cause s t (again_name name submit)

abbrev placed_cause : Settings → Tally → ℕ → List ℕ → Result Placing Cause → Cause
placed_cause s t submit name (Err cause) = cause
placed_cause s t submit name (Ok p) = named_cause s t submit name (number_of name (job_names t.jobs))

abbrev pub reject_of : Settings → Tally → LoggedJob → Reject
reject_of s t job = record { line = job.line; cause = placed_cause s t job.account.submit job.name (place s job.account) }

-- ---- nothing else changes
left_chosen : (b c : Bool) (t : Tally) (line submit : ℕ) (name set : List ℕ) (p : Placing) → b || c ≡ true
    → cond b (left_out t line Outside) (cond c (left_out t line Beyond) (taken t line submit name set p)) ≡ left_out t line (cond b Outside Beyond)
left_chosen true c t line submit name set p full = refl
left_chosen false true t line submit name set p full = refl
left_chosen false false t line submit name set p full = cc

left_kept : (s : Settings) (t : Tally) (line submit : ℕ) (name set : List ℕ) (p : Placing) → is_full s t ≡ true → kept s t line submit name set p ≡ left_out t line (kept_cause s t)
left_kept s t line submit name set p full = left_chosen (nat_le s.most (length t.jobs)) (nat_le 100000 (length t.jobs)) t line submit name set p full

left_read : (a b : Bool) (s : Settings) (t : Tally) (line submit : ℕ) (name set : List ℕ) (p : Placing) → is_full s t ≡ true
    → cond a (cond b (left_out t line Repeated) (kept s t line submit name set p)) (left_out t line Beyond) ≡ left_out t line (cond a (cond b Repeated (kept_cause s t)) Beyond)
left_read true true s t line submit name set p full = refl
left_read true false s t line submit name set p full = left_kept s t line submit name set p full
left_read false b s t line submit name set p full = refl

left_once : (b : Bool) (s : Settings) (t : Tally) (line submit : ℕ) (name set : List ℕ) (p : Placing) → is_full s t ≡ true
    → cond b (left_out t line Repeated) (again s t line submit name set p) ≡ left_out t line (cond b Repeated (again_cause s t name))
left_once true s t line submit name set p full = refl
left_once false s t line submit name set p full = left_read (is_name name) (is_among name (job_names t.jobs)) s t line submit name set p full

left_named : (s : Settings) (t : Tally) (line submit : ℕ) (name set : List ℕ) (p : Placing) (number : Option ℕ) → is_full s t ≡ true
    → named s t line submit name set p number ≡ left_out t line (named_cause s t submit name number)
left_named s t line submit name set p None full = left_kept s t line submit name set p full
left_named s t line submit name set p (Some number) full = left_once (is_second (slice_get t.submits number) submit) s t line submit (again_name name submit) set p full

left_placed : (s : Settings) (t : Tally) (line submit : ℕ) (name set : List ℕ) (r : Result Placing Cause) → is_full s t ≡ true
    → with_placed s t line submit name set r ≡ left_out t line (placed_cause s t submit name r)
left_placed s t line submit name set (Err cause) full = refl
left_placed s t line submit name set (Ok p) full = left_named s t line submit name set p (number_of name (job_names t.jobs)) full

left_logged : (s : Settings) (t : Tally) (job : LoggedJob) → is_full s t ≡ true → with_logged s t job ≡ with_left t (t.left ++ reject_of s t job ∷ [])
left_logged s t job full = left_placed s t job.line job.account.submit job.name job.set (place s job.account) full

-- each job is left out, for a cause in which those before it have no part
pub left_all : (s : Settings) (t : Tally) (jobs : List LoggedJob) → is_full s t ≡ true → fold (with_logged s) t jobs ≡ with_left t (t.left ++ map (reject_of s t) jobs)
left_all s t [] full = ap (with_left t) (sym (append-nil t.left))
left_all s t (job ∷ jobs) full =
    ap (λ u. fold (with_logged s) u jobs) (left_logged s t job full)
    ∙ left_all s (with_left t (t.left ++ reject_of s t job ∷ [])) jobs full
    ∙ ap (with_left t) (append_assoc t.left (reject_of s t job ∷ []) (map (reject_of s t) jobs))

-- ---- what a job adds: what was left out before has no part in it
-- a step on a tally goes by what was left out before, and leaves out on one line alone
abbrev AddsAt : ℕ → (Tally → Tally) → Tally → List Reject → Type 0
AddsAt line f t left =
    (f (with_left t left) ≡ with_left (f (with_left t [])) (left ++ (f (with_left t [])).left)) × All (λ r. r.line ≡ line) (f (with_left t [])).left

-- one of two steps
adds-by : (b : Bool) (line : ℕ) (f g : Tally → Tally) (t : Tally) (left : List Reject) → AddsAt line f t left → AddsAt line g t left
    → AddsAt line (λ u. cond b (f u) (g u)) t left
adds-by true line f g t left one other = one
adds-by false line f g t left one other = other

-- a job is left out
adds-left_out : (line : ℕ) (cause : Cause) (t : Tally) (left : List Reject) → AddsAt line (λ u. left_out u line cause) t left
adds-left_out line cause t left = (refl, All-cons (λ r. r.line ≡ line) (record { line = line; cause = cause }) [] refl (All-nil (λ r. r.line ≡ line)))

-- a job is taken
adds-taken : (line submit : ℕ) (name set : List ℕ) (p : Placing) (t : Tally) (left : List Reject) → AddsAt line (λ u. taken u line submit name set p) t left
adds-taken line submit name set p t left = (ap (with_left (taken t line submit name set p)) (sym (append-nil left)), All-nil (λ r. r.line ≡ line))

-- unless so many are there as are wanted or possible
adds-kept : (s : Settings) (line submit : ℕ) (name set : List ℕ) (p : Placing) (t : Tally) (left : List Reject) → AddsAt line (λ u. kept s u line submit name set p) t left
adds-kept s line submit name set p t left =
    adds-by (nat_le s.most (length t.jobs)) line (λ u. left_out u line Outside)
    (λ u. cond (nat_le 100000 (length t.jobs)) (left_out u line Beyond) (taken u line submit name set p)) t left (adds-left_out line Outside t left)
    (adds-by (nat_le 100000 (length t.jobs)) line (λ u. left_out u line Beyond) (λ u. taken u line submit name set p) t left
    (adds-left_out line Beyond t left) (adds-taken line submit name set p t left))

-- under the name of a job that was submitted again
adds-again : (s : Settings) (line submit : ℕ) (name set : List ℕ) (p : Placing) (t : Tally) (left : List Reject) → AddsAt line (λ u. again s u line submit name set p) t left
adds-again s line submit name set p t left =
    adds-by (is_name name) line (λ u. cond (is_among name (job_names t.jobs)) (left_out u line Repeated) (kept s u line submit name set p)) (λ u. left_out u line Beyond) t left
    (adds-by (is_among name (job_names t.jobs)) line (λ u. left_out u line Repeated) (λ u. kept s u line submit name set p) t left
    (adds-left_out line Repeated t left) (adds-kept s line submit name set p t left))
    (adds-left_out line Beyond t left)

-- by whether an earlier job has its name
adds-named : (s : Settings) (line submit : ℕ) (name set : List ℕ) (p : Placing) (number : Option ℕ) (t : Tally) (left : List Reject)
    → AddsAt line (λ u. named s u line submit name set p number) t left
adds-named s line submit name set p None t left = adds-kept s line submit name set p t left
adds-named s line submit name set p (Some number) t left =
    adds-by (is_second (slice_get t.submits number) submit) line (λ u. left_out u line Repeated) (λ u. again s u line submit (again_name name submit) set p) t left
    (adds-left_out line Repeated t left) (adds-again s line submit (again_name name submit) set p t left)

-- by whether it has a place
adds-placed : (s : Settings) (line submit : ℕ) (name set : List ℕ) (r : Result Placing Cause) (t : Tally) (left : List Reject)
    → AddsAt line (λ u. with_placed s u line submit name set r) t left
adds-placed s line submit name set (Err cause) t left = adds-left_out line cause t left
adds-placed s line submit name set (Ok p) t left = adds-named s line submit name set p (number_of name (job_names t.jobs)) t left

-- with one job of the log more
adds-logged : (s : Settings) (job : LoggedJob) (t : Tally) (left : List Reject) → AddsAt job.line (λ u. with_logged s u job) t left
adds-logged s job t left = adds-placed s job.line job.account.submit job.name job.set (place s job.account) t left

-- what is left out of a job
abbrev pub left_by : Settings → Tally → LoggedJob → List Reject
left_by s t job = (with_logged s (with_left t []) job).left

-- it stands behind what was left out before, which has no part in what is taken
pub logged-left : (s : Settings) (job : LoggedJob) (t : Tally) (left : List Reject)
    → with_logged s (with_left t left) job ≡ with_left (with_logged s (with_left t []) job) (left ++ left_by s t job)
logged-left s job t left = (adds-logged s job t left).0

-- all of it has the line of the job
pub left_by-line : (s : Settings) (job : LoggedJob) (t : Tally) → All (λ r. r.line ≡ job.line) (left_by s t job)
left_by-line s job t = (adds-logged s job t []).1

-- ---- a job without a place is left out, whatever was taken before
-- why a job without a place has none
abbrev fault_of : Result Placing Cause → Cause
fault_of (Err cause) = cause
fault_of (Ok p) = Beyond

-- what is left out of such a job
abbrev pub unplaced_reject : Settings → LoggedJob → Reject
unplaced_reject s job = record { line = job.line; cause = fault_of (place s job.account) }

-- the same by its place
unplaced-by : (s : Settings) (t : Tally) (line submit : ℕ) (name set : List ℕ) (r : Result Placing Cause) → is_ok r ≡ false
    → with_placed s t line submit name set r ≡ left_out t line (fault_of r)
unplaced-by s t line submit name set (Err cause) none = refl
unplaced-by s t line submit name set (Ok p) none = cc

-- that is all that changes
pub logged-unplaced : (s : Settings) (t : Tally) (job : LoggedJob) → is_ok (place s job.account) ≡ false → with_logged s t job ≡ with_left t (t.left ++ unplaced_reject s job ∷ [])
logged-unplaced s t job none = unplaced-by s t job.line job.account.submit job.name job.set (place s job.account) none

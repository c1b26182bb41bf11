-- What is taken of a log as its lines are read.
use Rattle.std.specs.Prelude.{◌≡◌, take, ◌+◌, ◌*◌, ◌<◌, ◌≤◌, ◌⊎◌, ℕ, All, Bool, Contains, IfSome, List, [], ◌∷◌, ◌++◌, not, ◌&&◌, false, true, Option, None, Some, is_ok, is_some, if◌then◌else◌}
use Rattle.tetri_cluster.specs.declared.cluster.NodeText.{NodeText}
use Rattle.tetri_base.specs.Lists.{count}
use Rattle.tetri_logs.specs.Ahead.{AreAhead}
use Rattle.tetri_logs.specs.Origin.{is_in_run, may_begin}
use Rattle.tetri_logs.specs.Placing.{is_outside, place}
use Rattle.tetri_logs.specs.Reading.{facts_in, is_comment, jobs_in, left_in, no_facts}
use Rattle.tetri_logs.specs.Scale.{moment_of}
use Rattle.tetri_logs.specs.declared.account.Account.{Account}
use Rattle.tetri_logs.specs.declared.early.Early.{Early}
use Rattle.tetri_logs.specs.declared.entry.Entry.{Entry}
use Rattle.tetri_logs.specs.declared.entry.LoggedJob.{LoggedJob}
use Rattle.tetri_logs.specs.declared.options.Options.{Options}
use Rattle.tetri_logs.specs.declared.options.Settings.{Settings}
use Rattle.tetri_workload.specs.Kinds.{are_mixed, settled_all}
use Rattle.tetri_workload.specs.Listed.{jobs_before, jobs_from}
use Rattle.tetri_workload.specs.Ordering.{IsMoveBy}
use Rattle.tetri_workload.specs.Taking.{Tally, is_full, nothing_taken, so_far, taken_all, with_logged}
use Rattle.tetri_workload.specs.Waiting.{HasSeconds}
use Rattle.tetri_workload.specs.declared.intake.Intake.{Intake}
use Rattle.tetri_workload.specs.declared.reading.Reading.{Reading}

-- the jobs of a log with these entries, each with how many nodes are in its set where nodes differ
abbrev pub jobs_of : List NodeText → List Entry → List LoggedJob
jobs_of nodes es = settled_all nodes (jobs_in es)

-- whether a job has a place in the trace
abbrev pub is_placed : Settings → LoggedJob → Bool
is_placed s job = is_ok (place s job.account)

-- when the last job was submitted that had a place and found the trace not full yet, behind this job
abbrev pub last_behind : Settings → Tally → ℕ → LoggedJob → ℕ
last_behind s t last job = if is_placed s job && not (is_full s t) then job.account.submit else last

-- Each of these jobs that has a place comes in its turn behind those of which this was taken: not before the last one that had a place and found the trace not full yet.
abbrev pub ComeInTurn : Settings → Tally → ℕ → List LoggedJob → Type 0
ComeInTurn s t last [] = Unit {0}
ComeInTurn s t last (job ∷ jobs) = (is_placed s job ≡ true → last ≤ job.account.submit) × ComeInTurn s (with_logged s t job) (last_behind s t last job) jobs

-- none of these jobs may begin slot 0 before it begins
abbrev pub NoneBegins : Settings → List LoggedJob → Type 0
NoneBegins s jobs = All (λ j. may_begin s j.account ≡ true → s.origin ≤ moment_of s j.account) jobs

-- each of these jobs that may begin comes early enough for the trace
abbrev pub AllEarly : Settings → List LoggedJob → Type 0
AllEarly s jobs = All (λ j. may_begin s j.account ≡ true → is_in_run s j.account ≡ true) jobs

-- Of these jobs one comes early enough for the trace, and another too late, but less than a trace behind it. Both may begin.
pub record IsBridge (s : Settings) (jobs : List LoggedJob) (early late : LoggedJob) : Type 0 where
  pub has_early : Contains jobs early
  pub begins : may_begin s early.account ≡ true
  pub in_run : is_in_run s early.account ≡ true
  pub has_late : Contains jobs late
  pub may : may_begin s late.account ≡ true
  pub beyond : is_in_run s late.account ≡ false
  pub near : moment_of s late.account < moment_of s early.account + 10000 * s.slot

abbrev pub HasBridge : Settings → List LoggedJob → Type 0
HasBridge s jobs = (early : LoggedJob) × (late : LoggedJob) × IsBridge s jobs early late

-- no gap counts, as the caller says when the wanted part begins, or late jobs are joined to these by a bridge
abbrev pub AreJoined : Settings → Options → List LoggedJob → Type 0
AreJoined s o jobs = (is_some o.from ≡ true) ⊎ HasBridge s jobs

-- one of these jobs has a place and was submitted then
abbrev pub HasPlaced : Settings → List LoggedJob → ℕ → Type 0
HasPlaced s jobs submit = (job : LoggedJob) × Contains jobs job × (is_placed s job ≡ true) × (job.account.submit ≡ submit)

-- a job comes less than a trace behind one that was submitted then
abbrev pub IsNear : Settings → Option ℕ → Account → Type 0
IsNear s None a = ⊥
IsNear s (Some submit) a = moment_of s a < s.start + submit + 10000 * s.slot

-- a job that comes too late for the trace comes less than a trace behind the last job that had a place
pub record IsJoinedBy (s : Settings) (i : Intake) (a : Account) : Type 0 where
  pub may : may_begin s a ≡ true
  pub beyond : is_in_run s a ≡ false
  pub near : IsNear s i.placed a

-- a job that may begin does not come before slot 0, and comes early enough for the trace unless late jobs leave no gap
pub record IsTimely (s : Settings) (i : Intake) (a : Account) : Type 0 where
  pub begins : may_begin s a ≡ true → s.origin ≤ moment_of s a
  pub early : i.joined ≡ false → may_begin s a ≡ true → is_in_run s a ≡ true

-- A job without a place may be left out, and then late jobs leave no gap or are not known not to: it does not begin slot 0 earlier, nor comes too late unless none leaves one.
pub record MayLeave (s : Settings) (i : Intake) (a : Account) (joined : Bool) : Type 0 where
  pub begins : may_begin s a ≡ true → s.origin ≤ moment_of s a
  pub was : joined ≡ false → i.joined ≡ false
  pub early : joined ≡ false → may_begin s a ≡ true → is_in_run s a ≡ true
  pub by : joined ≡ true → (i.joined ≡ true) ⊎ IsJoinedBy s i a

-- these jobs are in the wanted part of the log
abbrev pub AreWanted : Settings → List LoggedJob → Type 0
AreWanted s jobs = All (λ j. is_outside s (moment_of s j.account) ≡ false) jobs

-- Of all jobs that have come, those in this order were handled, each in its turn, and the rest is still to be handled.
pub record IsHandled (s : Settings) (o : Options) (all rest : List LoggedJob) (i : Intake) (order : List LoggedJob) : Type 0 where
  pub moved : IsMoveBy (λ j. j.account.submit) all (order ++ rest)
  pub tally : so_far i.taken ≡ taken_all s order
  pub turns : (later : List LoggedJob) → ComeInTurn s (so_far i.taken) i.last later → ComeInTurn s nothing_taken 0 (order ++ later)
  pub begins : NoneBegins s order
  pub early : i.joined ≡ false → AllEarly s order
  pub joined : i.joined ≡ true → AreJoined s o all
  pub placed : IfSome i.placed (HasPlaced s all)

abbrev pub AreHandled : Settings → Options → List LoggedJob → List LoggedJob → Intake → Type 0
AreHandled s o all rest i = (order : List LoggedJob) × IsHandled s o all rest i order

-- What is said by lines with these entries, and what is taken of their jobs, and of the early ones before their lines are read. Of those
-- lines the early jobs are the first so many that are known.
pub record IsRead (s : Settings) (o : Options) (nodes : List NodeText) (es : List Entry) (r : Reading) : Type 0 where
  pub left : r.left.items ≡ left_in es
  pub facts : r.facts ≡ facts_in no_facts es
  pub comments : r.comments ≡ count is_comment es
  pub wanted : AreWanted s r.intake.waiting.held.items
  pub seconds : HasSeconds r.intake.waiting
  pub met : jobs_before r.early.before (jobs_of nodes es) ≡ take r.met r.early.jobs.items
  pub handled : AreHandled s o (r.early.jobs.items ++ jobs_from r.early.before (jobs_of nodes es)) r.intake.waiting.held.items r.intake

-- the same of the first lines of a log with these entries, where the others are not read yet
abbrev pub IsReadOf : Settings → Options → List NodeText → List Entry → List Entry → Reading → Type 0
IsReadOf s o nodes es others r = (first : List Entry) × (first ++ others ≡ es) × IsRead s o nodes first r

-- where nodes do not differ, the lines of early jobs are those that were read ahead
abbrev pub IsAhead : List NodeText → Early → Type 0
IsAhead nodes early = are_mixed nodes ≡ false → AreAhead early.ahead early.jobs.items

-- the entries behind, where a log has not ended
abbrev pub behind : Bool → List Entry → List Entry
behind ended others = if ended then [] else others

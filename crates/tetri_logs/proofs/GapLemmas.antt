-- A gap behind the first jobs.
use Rattle.std.proofs.Common.{◌≡◌, ◌+◌, ◌*◌, ◌<◌, ◌∙◌, ℕ, List, Bool, true, false, [], ◌∷◌, ◌++◌, take, drop, length, get_or, cond, refl, ap, sym}
use Rattle.std.specs.Prelude.{nat_lt}
use Rattle.std.proofs.lemmas.List.{drop_more, take_more}
use Rattle.tetri_logs.specs.Origin.{gap_after, gap_at, last_second, may_begin}
use Rattle.tetri_logs.specs.Scale.{moment_of}
use Rattle.tetri_logs.specs.declared.entry.LoggedJob.{LoggedJob}
use Rattle.tetri_logs.specs.declared.options.Settings.{Settings}

-- the last second, one job on
last_second-push : (s : Settings) (second : ℕ) (jobs : List LoggedJob) (job : LoggedJob)
    → last_second s second (jobs ++ job ∷ []) ≡ cond (may_begin s job.account) (moment_of s job.account) (last_second s second jobs)
last_second-push s second [] job = refl
last_second-push s second (first ∷ jobs) job = last_second-push s (cond (may_begin s first.account) (moment_of s first.account) second) jobs job

by_test : (s : Settings) (last moment : ℕ) (rest : List LoggedJob) (begins early : Bool) → (begins ≡ true → early ≡ true)
    → cond begins (cond early (gap_after s moment rest) (gap_at s last moment)) (gap_after s last rest) ≡ gap_after s (cond begins moment last) rest
by_test s last moment rest true true early = refl
by_test s last moment rest true false early = let wrong = early refl in cc
by_test s last moment rest false early known = refl

-- a job that may not begin or does not come too late leaves the gap behind it
pub gap_after-next : (s : Settings) (last i : ℕ) (jobs : List LoggedJob) (d : LoggedJob) → i < length jobs
    → (may_begin s (get_or jobs i d).account ≡ true → nat_lt (moment_of s (get_or jobs i d).account) (s.origin + 10000 * s.slot) ≡ true)
    → gap_after s (last_second s last (take i jobs)) (drop i jobs) ≡ gap_after s (last_second s last (take (i + 1) jobs)) (drop (i + 1) jobs)
gap_after-next s last i jobs d inside early =
    let job = get_or jobs i d in
    let rest = drop (i + 1) jobs in
    let before = last_second s last (take i jobs) in
    ap (gap_after s before) (drop_more jobs i d inside)
    ∙ by_test s before (moment_of s job.account) rest (may_begin s job.account) (nat_lt (moment_of s job.account) (s.origin + 10000 * s.slot)) early
    ∙ ap (λ n. gap_after s n rest) (sym (ap (last_second s last) (take_more jobs i d inside) ∙ last_second-push s last (take i jobs) job))

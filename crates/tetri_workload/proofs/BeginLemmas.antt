-- With which job slot 0 begins, and jobs that leave no gap.
use Rattle.std.proofs.Common.{◌≡◌, ◌+◌, ◌*◌, ◌<◌, ◌≤◌, ◌∙◌, ◌⊎◌, ℕ, zero, suc, List, Bool, true, false, [], ◌∷◌, length, cond, get_or, inl, inr, refl, ap, sym, subst, arith, true≢false}
use Rattle.std.specs.Prelude.{All, Contains, None, Some, is_some, nat_le}
use Rattle.std.proofs.lemmas.Bool.Decides.{nat_tests}
use Rattle.std.proofs.lemmas.List.Elements.{All-head, All-tail}
use Rattle.std.proofs.lemmas.List.Sorted.{All-permutation, Contains-permutation}
use Rattle.tetri_logs.specs.Origin.{begun, begun_at, begun_with, first_second, gap_after, gap_at, gap_of, is_in_run, may_begin}
use Rattle.tetri_logs.specs.Scale.{moment_of}
use Rattle.tetri_logs.specs.declared.entry.LoggedJob.{LoggedJob}
use Rattle.tetri_logs.specs.declared.options.Options.{Options}
use Rattle.tetri_logs.specs.declared.options.Settings.{Settings}
use Rattle.tetri_workload.specs.Reading.{AllEarly, HasBridge, IsBridge, NoneBegins}
use Rattle.tetri_workload.proofs.OrderLemmas.{NoLower, Rises, moved-ordered, ordered, rises-ordered}
use Rattle.tetri_workload.proofs.EntryLemmas.{submit_of}

-- ---- a job of a list, and a list in order
-- the job at this place of a list is the first one or one of the others
first_or-by : (job next : LoggedJob) (jobs : List LoggedJob) (k : ℕ) → k < length (next ∷ jobs) → get_or (next ∷ jobs) k job ≡ job → (next ≡ job) ⊎ Contains jobs job
first_or-by job next jobs zero within is = inl is
first_or-by job next jobs (suc k) within is = inr (k, omega (arith, within), is)

-- a job of a list is the first one or one of the others
first_or : (job next : LoggedJob) (jobs : List LoggedJob) → Contains (next ∷ jobs) job → (next ≡ job) ⊎ Contains jobs job
first_or job next jobs has = first_or-by job next jobs has.0 has.1 has.2

-- an empty list has no job
has_none : (job : LoggedJob) → Contains [] job → ⊥
has_none job has = let within = has.1 in omega (arith, within)

-- a job with another answer to a test than the first one's is one of the others, if it is the first one or one of them
other-by : (p : LoggedJob → Bool) (b : Bool) (job next : LoggedJob) (jobs : List LoggedJob) → p job ≡ b → (p next ≡ b → ⊥) → (next ≡ job) ⊎ Contains jobs job → Contains jobs job
other-by p b job next jobs is not (inl same) = absurd (not (ap p same ∙ is))
other-by p b job next jobs is not (inr has) = has

-- a job of a list with another answer to a test than the first one's is one of the others
other : (p : LoggedJob → Bool) (b : Bool) (job next : LoggedJob) (jobs : List LoggedJob) → p job ≡ b → (p next ≡ b → ⊥) → Contains (next ∷ jobs) job → Contains jobs job
other p b job next jobs is not has = other-by p b job next jobs is not (first_or job next jobs has)

-- what is false is not true
not_true : (b : Bool) → b ≡ false → b ≡ true → ⊥
not_true b is was = true≢false (sym was ∙ is)

-- what is true is not false
not_false : (b : Bool) → b ≡ true → b ≡ false → ⊥
not_false b is was = true≢false (sym is ∙ was)

-- in a list where no second of submission is lower than this one, none of a job is
no_lower-at : (n : ℕ) (jobs : List LoggedJob) (job : LoggedJob) → NoLower submit_of n jobs → Contains jobs job → n ≤ submit_of job
no_lower-at n [] job above has = absurd (has_none job has)
no_lower-at n (next ∷ jobs) job above has = by (no_lower-at n jobs job above.1) (first_or job next jobs has)
  where
    by : (Contains jobs job → n ≤ submit_of job) → (next ≡ job) ⊎ Contains jobs job → n ≤ submit_of job
    by rest (inl same) = subst (λ j. n ≤ submit_of j) same above.0
    by rest (inr behind) = rest behind

-- the first job in order of submission was submitted no later than each of them
first_lowest : (next : LoggedJob) (jobs : List LoggedJob) (job : LoggedJob) → Rises submit_of (next ∷ jobs) → Contains (next ∷ jobs) job → submit_of next ≤ submit_of job
first_lowest next jobs job up has = by (first_or job next jobs has)
  where
    by : (next ≡ job) ⊎ Contains jobs job → submit_of next ≤ submit_of job
    by (inl same) = let e : submit_of next ≡ submit_of job = ap submit_of same in omega (arith, e)
    by (inr behind) = no_lower-at (submit_of next) jobs job up.0 behind

-- ---- the beginning
-- Where no job that may begin was submitted before this second, and one was by then, the first one in order of submission was submitted in it.
first_second-is : (s : Settings) (second : ℕ) (job : LoggedJob) (jobs : List LoggedJob) → Rises submit_of jobs → All (λ j. may_begin s j.account ≡ true → second ≤ moment_of s j.account) jobs
    → Contains jobs job → may_begin s job.account ≡ true → moment_of s job.account ≡ second → first_second s jobs ≡ second
first_second-is s second job [] up none has may is = absurd (has_none job has)
first_second-is s second job (next ∷ jobs) up none has may is =
    by (may_begin s next.account) refl
    (λ rest. first_second-is s second job jobs up.1 (All-tail (λ j. may_begin s j.account ≡ true → second ≤ moment_of s j.account) next jobs none) rest may is)
  where
    by : (b : Bool) → may_begin s next.account ≡ b → (Contains jobs job → first_second s jobs ≡ second) → cond b (moment_of s next.account) (first_second s jobs) ≡ second
    by true begins rest =
        let above : second ≤ moment_of s next.account = All-head (λ j. may_begin s j.account ≡ true → second ≤ moment_of s j.account) next jobs none begins in
        let below : submit_of next ≤ submit_of job = first_lowest next jobs job up has in
        omega (arith, above, below, is)
    by false waits rest = rest (other (λ j. may_begin s j.account) true job next jobs may (not_true (may_begin s next.account) waits) has)

-- the same by whether the job may begin
begun-by : (draft s : Settings) (first : LoggedJob) (jobs : List LoggedJob) (b : Bool) → may_begin draft first.account ≡ b
    → cond b (Some (begun_at draft (moment_of draft first.account))) None ≡ Some s → Contains jobs first → NoneBegins s jobs → begun draft (ordered submit_of jobs) ≡ s
begun-by draft s first jobs true may begins has none =
    let same : begun_at draft (moment_of draft first.account) ≡ s = cc in
    let second = moment_of draft first.account in
    let before : NoneBegins (begun_at draft second) jobs = subst (λ t. NoneBegins t jobs) (sym same) none in
    let sorted = ordered submit_of jobs in
    let moved = moved-ordered submit_of jobs in
    ap (begun_at draft)
    (first_second-is draft second first sorted (rises-ordered submit_of jobs)
    (All-permutation (λ j. may_begin draft j.account ≡ true → second ≤ moment_of draft j.account) jobs sorted moved before)
    (Contains-permutation jobs sorted first moved has) may refl)
    ∙ same
begun-by draft s first jobs false may begins has none = cc

-- what slot 0 begins with
begun-as-by : (draft s : Settings) (second : ℕ) (b : Bool) → cond b (Some (begun_at draft second)) None ≡ Some s → begun_at draft second ≡ s
begun-as-by draft s second true is = cc
begun-as-by draft s second false is = cc

pub begun-as : (draft s : Settings) (first : LoggedJob) → begun_with draft first.account ≡ Some s → begun_at draft (moment_of draft first.account) ≡ s
begun-as draft s first is = begun-as-by draft s (moment_of draft first.account) (may_begin draft first.account) is

-- slot 0 begins with a job that may begin, if none of the jobs that may was submitted before it
pub begun-of : (draft s : Settings) (first : LoggedJob) (jobs : List LoggedJob) → begun_with draft first.account ≡ Some s → Contains jobs first → NoneBegins s jobs
    → begun draft (ordered submit_of jobs) ≡ s
begun-of draft s first jobs begins has none = begun-by draft s first jobs (may_begin draft first.account) refl begins has none

-- ---- no gap
-- there is none where the caller says when the wanted part begins
pub no_gap-from : (o : Options) (s : Settings) (jobs : List LoggedJob) → is_some o.from ≡ true → gap_of o s jobs ≡ None
no_gap-from o s jobs from = ap (λ b. cond b None (gap_after s s.origin jobs)) from

-- nor where the caller does not say it and none comes behind the second with which slot 0 begins
gap_by : (b : Bool) (s : Settings) (jobs : List LoggedJob) → gap_after s s.origin jobs ≡ None → cond b None (gap_after s s.origin jobs) ≡ None
gap_by true s jobs none = refl
gap_by false s jobs none = none

-- jobs leave no gap if the others leave none behind the first one, by whether that may begin and comes early enough
step-by : (s : Settings) (last moment : ℕ) (jobs : List LoggedJob) (begins early : Bool) → (begins ≡ false → gap_after s last jobs ≡ None)
    → (begins ≡ true → early ≡ true → gap_after s moment jobs ≡ None) → (begins ≡ true → early ≡ false → gap_at s last moment ≡ None)
    → cond begins (cond early (gap_after s moment jobs) (gap_at s last moment)) (gap_after s last jobs) ≡ None
step-by s last moment jobs true true waits early late = early refl refl
step-by s last moment jobs true false waits early late = late refl refl
step-by s last moment jobs false early waits before late = waits refl

-- the same of the first job itself
step : (s : Settings) (last : ℕ) (next : LoggedJob) (jobs : List LoggedJob) → (may_begin s next.account ≡ false → gap_after s last jobs ≡ None)
    → (may_begin s next.account ≡ true → is_in_run s next.account ≡ true → gap_after s (moment_of s next.account) jobs ≡ None)
    → (may_begin s next.account ≡ true → is_in_run s next.account ≡ false → gap_at s last (moment_of s next.account) ≡ None)
    → gap_after s last (next ∷ jobs) ≡ None
step s last next jobs waits early late = step-by s last (moment_of s next.account) jobs (may_begin s next.account) (is_in_run s next.account) waits early late

-- none where all that may begin come early enough
early-none : (s : Settings) (jobs : List LoggedJob) → AllEarly s jobs → (last : ℕ) → gap_after s last jobs ≡ None
early-none s [] early last = refl
early-none s (next ∷ jobs) early last =
    let rest : AllEarly s jobs = All-tail (λ j. may_begin s j.account ≡ true → is_in_run s j.account ≡ true) next jobs early in
    step s last next jobs (λ waits. early-none s jobs rest last) (λ begins is. early-none s jobs rest (moment_of s next.account))
    (λ begins late. absurd (not_true (is_in_run s next.account) late (All-head (λ j. may_begin s j.account ≡ true → is_in_run s j.account ≡ true) next jobs early begins)))

-- jobs leave no gap if all that may begin come early enough for the trace
pub no_gap-early : (o : Options) (s : Settings) (jobs : List LoggedJob) → AllEarly s jobs → gap_of o s (ordered submit_of jobs) ≡ None
no_gap-early o s jobs early =
    let sorted = ordered submit_of jobs in
    let all : AllEarly s sorted = All-permutation (λ j. may_begin s j.account ≡ true → is_in_run s j.account ≡ true) jobs sorted (moved-ordered submit_of jobs) early in
    gap_by (is_some o.from) s sorted (early-none s sorted all s.origin)

-- a job that comes less than a trace behind the one before it leaves no gap
near-none : (s : Settings) (last moment : ℕ) → moment < last + 10000 * s.slot → gap_at s last moment ≡ None
near-none s last moment near = by (nat_le (last + 10000 * s.slot) moment) refl
  where
    by : (b : Bool) → nat_le (last + 10000 * s.slot) moment ≡ b → cond b (Some moment) None ≡ None
    by true is = absurd (grind (arith, nat_tests, is, near))
    by false is = refl

module _ (s : Settings) (late : LoggedJob) (may : may_begin s late.account ≡ true) (beyond : is_in_run s late.account ≡ false) where
  -- the late job is not one that may not begin
  late-may : (next : LoggedJob) (jobs : List LoggedJob) → may_begin s next.account ≡ false → Contains (next ∷ jobs) late → Contains jobs late
  late-may next jobs waits has = other (λ j. may_begin s j.account) true late next jobs may (not_true (may_begin s next.account) waits) has

  -- nor one that comes early enough
  late-run : (next : LoggedJob) (jobs : List LoggedJob) → is_in_run s next.account ≡ true → Contains (next ∷ jobs) late → Contains jobs late
  late-run next jobs is has = other (λ j. is_in_run s j.account) false late next jobs beyond (not_false (is_in_run s next.account) is) has

  -- jobs behind the early one leave no gap before the late one
  behind-none : (first : ℕ) → moment_of s late.account < s.start + first + 10000 * s.slot → (last : ℕ) → s.start + first ≤ last → (jobs : List LoggedJob)
      → Rises submit_of jobs → NoLower submit_of first jobs → Contains jobs late → gap_after s last jobs ≡ None
  behind-none first near last since [] up above has = refl
  behind-none first near last since (next ∷ jobs) up above has =
      let low = above.0 in
      step s last next jobs (λ waits. behind-none first near last since jobs up.1 above.1 (late-may next jobs waits has))
      (λ begins is. behind-none first near (moment_of s next.account) (omega (arith, low)) jobs up.1 above.1 (late-run next jobs is has))
      (λ begins not.
      let before : submit_of next ≤ submit_of late = first_lowest next jobs late up has in
      near-none s last (moment_of s next.account) (omega (arith, before, near, since)))

  module _ (early : LoggedJob) (begins : may_begin s early.account ≡ true) (in_run : is_in_run s early.account ≡ true) (near : moment_of s late.account < moment_of s early.account + 10000 * s.slot) where
    -- one that was submitted no later than the early one comes early enough too
    run-before : (next : LoggedJob) → submit_of next ≤ submit_of early → is_in_run s next.account ≡ true
    run-before next before = grind (arith, nat_tests, before, in_run)

    -- jobs behind one that comes early enough leave no gap, be it the early one or one before it
    ahead-by : (next : LoggedJob) (jobs : List LoggedJob) → Rises submit_of (next ∷ jobs) → Contains jobs late → ((last : ℕ) → Contains jobs early → gap_after s last jobs ≡ None)
        → (next ≡ early) ⊎ Contains jobs early → gap_after s (moment_of s next.account) jobs ≡ None
    ahead-by next jobs up has none (inl same) =
        let e : submit_of next ≡ submit_of early = ap submit_of same in
        behind-none (submit_of next) (omega (arith, near, e)) (moment_of s next.account) (omega arith) jobs up.1 up.0 has
    ahead-by next jobs up has none (inr ahead) = none (moment_of s next.account) ahead

    -- jobs in order of submission, with the early one and the late one among them, leave no gap
    ahead-none : (jobs : List LoggedJob) → Rises submit_of jobs → Contains jobs late → (last : ℕ) → Contains jobs early → gap_after s last jobs ≡ None
    ahead-none [] up has last ahead = refl
    ahead-none (next ∷ jobs) up has last ahead =
        step s last next jobs
        (λ waits. ahead-none jobs up.1 (late-may next jobs waits has) last (other (λ j. may_begin s j.account) true early next jobs begins (not_true (may_begin s next.account) waits) ahead))
        (λ is_may is. let rest = late-run next jobs is has in ahead-by next jobs up rest (ahead-none jobs up.1 rest) (first_or early next jobs ahead))
        (λ is_may not. absurd (not_true (is_in_run s next.account) not (run-before next (first_lowest next jobs early up ahead))))

-- jobs leave no gap if one comes early enough for the trace and one that comes too late comes less than a trace behind it
pub no_gap-bridge : (o : Options) (s : Settings) (jobs : List LoggedJob) → HasBridge s jobs → gap_of o s (ordered submit_of jobs) ≡ None
no_gap-bridge o s jobs bridge =
    let early = bridge.0 in
    let late = bridge.1 in
    let is : IsBridge s jobs early late = bridge.2 in
    let sorted = ordered submit_of jobs in
    let moved = moved-ordered submit_of jobs in
    gap_by (is_some o.from) s sorted
    (ahead-none s late is.may is.beyond early is.begins is.in_run is.near sorted (rises-ordered submit_of jobs) (Contains-permutation jobs sorted late moved is.has_late) s.origin
    (Contains-permutation jobs sorted early moved is.has_early))

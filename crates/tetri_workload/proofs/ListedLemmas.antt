-- Jobs of a list: those before a second and those from it on, and jobs by their places.
use Rattle.std.proofs.Common.{◌≡◌, ◌+◌, ◌<◌, ◌≤◌, ◌∙◌, ◌++◌, ◌∷◌, [], ℕ, List, Bool, true, false, cond, length, map, refl, ap, ap₂, sym, subst, arith, append_assoc, nat_cmp, is_lt}
use Rattle.std.specs.Prelude.{◌&&◌, All, filter, nat_le, nat_lt, not}
use Rattle.std.specs.List.Sorted.{IsSortedByKey}
use Rattle.std.proofs.lemmas.Bool.Decides.{nat_tests}
use Rattle.std.proofs.lemmas.List.{append-nil, get_or-map, length-map}
use Rattle.std.proofs.lemmas.List.Elements.{All-head, All-tail, All-weaker, filter-append, filter_passes}
use Rattle.std.proofs.lemmas.List.Sorted.{All-permutation, IsPermutation-map}
use Rattle.tetri_logs.specs.declared.entry.LoggedJob.{LoggedJob}
use Rattle.tetri_workload.specs.Listed.{job_at, jobs_at, jobs_before, jobs_from}
use Rattle.tetri_workload.specs.Ordering.{IsMoveBy, IsOrderBy}
use Rattle.tetri_workload.specs.declared.listed.Listed.{Listed}
use Rattle.tetri_workload.proofs.OrderLemmas.{IsMoveBy-append, IsMoveBy-before, IsMoveBy-past, IsMoveBy-refl, IsMoveBy-trans, filter-map, tied}
use Rattle.tetri_workload.proofs.EntryLemmas.{submit_of}

-- ---- parts by the second of submission
-- with one job before others, by whether it was submitted before the second, and in it or later
parted-by : (before from : Bool) (second : ℕ) (job : LoggedJob) (all part rest : List LoggedJob) → nat_lt (submit_of job) second ≡ before → nat_le second (submit_of job) ≡ from
    → (second ≤ submit_of job → All (λ j. submit_of job ≡ submit_of j → ⊥) part) → IsMoveBy submit_of all (part ++ rest)
    → IsMoveBy submit_of (job ∷ all) (cond before (job ∷ part) part ++ cond from (job ∷ rest) rest)
parted-by true true second job all part rest before from apart moves = absurd (grind (arith, nat_tests, before, from))
parted-by true false second job all part rest before from apart moves = IsMoveBy-append submit_of (job ∷ []) all (part ++ rest) moves
parted-by false true second job all part rest before from apart moves =
    let late : second ≤ submit_of job = grind (arith, nat_tests, from) in
    IsMoveBy-trans submit_of (job ∷ all) (job ∷ part ++ rest) (part ++ (job ∷ rest)) (IsMoveBy-append submit_of (job ∷ []) all (part ++ rest) moves)
    (subst (IsMoveBy submit_of (job ∷ part ++ rest)) (append_assoc part (job ∷ []) rest)
    (IsMoveBy-before submit_of rest (job ∷ part) (part ++ job ∷ []) (IsMoveBy-past submit_of job part (apart late))))
parted-by false false second job all part rest before from apart moves = absurd (grind (arith, nat_tests, before, from))

-- a job that was submitted in this second or later was submitted in that of none before it
apart-before : (second : ℕ) (jobs : List LoggedJob) (job : LoggedJob) → second ≤ submit_of job → All (λ j. submit_of job ≡ submit_of j → ⊥) (jobs_before second jobs)
apart-before second jobs job behind =
    All-weaker (λ j. nat_lt (submit_of j) second ≡ true) (λ j. submit_of job ≡ submit_of j → ⊥)
    (λ j is same. grind (arith, nat_tests, is, behind, same))
    (jobs_before second jobs) (filter_passes (λ j. nat_lt (submit_of j) second) jobs)

-- jobs, and those before a second before the others
pub parted : (second : ℕ) (jobs : List LoggedJob) → IsMoveBy submit_of jobs (jobs_before second jobs ++ jobs_from second jobs)
parted second [] = IsMoveBy-refl submit_of []
parted second (job ∷ jobs) =
    parted-by (nat_lt (submit_of job) second) (nat_le second (submit_of job)) second job jobs (jobs_before second jobs) (jobs_from second jobs)
    refl refl (apart-before second jobs job) (parted second jobs)

-- ---- one job more
-- it was submitted before the second
pub before-early : (second : ℕ) (jobs : List LoggedJob) (job : LoggedJob) → nat_lt (submit_of job) second ≡ true → jobs_before second (jobs ++ job ∷ []) ≡ jobs_before second jobs ++ job ∷ []
before-early second jobs job early =
    filter-append (λ j. nat_lt (submit_of j) second) jobs (job ∷ []) ∙ ap (λ b. jobs_before second jobs ++ cond b (job ∷ []) []) early

pub from-early : (second : ℕ) (jobs : List LoggedJob) (job : LoggedJob) → nat_lt (submit_of job) second ≡ true → jobs_from second (jobs ++ job ∷ []) ≡ jobs_from second jobs
from-early second jobs job early =
    let not : nat_le second (submit_of job) ≡ false = grind (arith, nat_tests, early) in
    filter-append (λ j. nat_le second (submit_of j)) jobs (job ∷ []) ∙ ap (λ b. jobs_from second jobs ++ cond b (job ∷ []) []) not ∙ append-nil (jobs_from second jobs)

-- or not
pub before-late : (second : ℕ) (jobs : List LoggedJob) (job : LoggedJob) → nat_lt (submit_of job) second ≡ false → jobs_before second (jobs ++ job ∷ []) ≡ jobs_before second jobs
before-late second jobs job late =
    filter-append (λ j. nat_lt (submit_of j) second) jobs (job ∷ []) ∙ ap (λ b. jobs_before second jobs ++ cond b (job ∷ []) []) late ∙ append-nil (jobs_before second jobs)

pub from-late : (second : ℕ) (jobs : List LoggedJob) (job : LoggedJob) → nat_lt (submit_of job) second ≡ false → jobs_from second (jobs ++ job ∷ []) ≡ jobs_from second jobs ++ job ∷ []
from-late second jobs job late =
    let is : nat_le second (submit_of job) ≡ true = grind (arith, nat_tests, late) in
    filter-append (λ j. nat_le second (submit_of j)) jobs (job ∷ []) ∙ ap (λ b. jobs_from second jobs ++ cond b (job ∷ []) []) is

-- ---- jobs of a list by their places
-- two tests that agree on each item let the same pass
filter_alike : {X : Type 0} (p q : X → Bool) (xs : List X) → All (λ x. p x ≡ q x) xs → filter p xs ≡ filter q xs
filter_alike p q [] same = refl
filter_alike p q (x ∷ xs) same = ap₂ (λ b ys. cond b (x ∷ ys) ys) (All-head (λ y. p y ≡ q y) x xs same) (filter_alike p q xs (All-tail (λ y. p y ≡ q y) x xs same))

-- each was submitted when it is said to be
abbrev pub AreTold : List LoggedJob → List Listed → Type 0
AreTold jobs part = All (λ l. submit_of (job_at jobs l) ≡ l.submit) part

sorted-at : (jobs : List LoggedJob) (part : List Listed) → AreTold jobs part → IsSortedByKey (λ l. l.submit) nat_cmp part → IsSortedByKey submit_of nat_cmp (jobs_at jobs part)
sorted-at jobs [] told sorted k d low within = absurd (omega (arith, within))
sorted-at jobs (l ∷ part) told sorted k d low within =
    let all = l ∷ part in
    let long : length (jobs_at jobs all) ≡ length all = length-map all (job_at jobs) in
    let next : k + 1 < length all = omega (arith, within, long) in
    let here : k < length all = omega (arith, next) in
    ap₂ (λ m n. is_lt (nat_cmp m n))
    (ap submit_of (get_or-map (job_at jobs) all (k + 1) l d next) ∙ told (k + 1) l next)
    (ap submit_of (get_or-map (job_at jobs) all k l d here) ∙ told k l here)
    ∙ sorted k l low next

-- what is in order by when jobs are said to be submitted
pub in_order-at : (jobs : List LoggedJob) (before after : List Listed) → AreTold jobs before → IsOrderBy (λ l. l.submit) before after
    → IsOrderBy submit_of (jobs_at jobs before) (jobs_at jobs after)
in_order-at jobs before after told order =
    let behind : AreTold jobs after = All-permutation (λ l. submit_of (job_at jobs l) ≡ l.submit) before after order.moved told in
    record {
      moved = IsPermutation-map (job_at jobs) before after order.moved;
      sorted = sorted-at jobs after behind order.sorted;
      stable = λ z.
          let is : LoggedJob → Bool = tied submit_of z in
          let number : Listed → ℕ = λ l. l.submit in
          let same : Listed → Bool = tied number (record { submit = submit_of z; place = 0 }) in
          let alike : (part : List Listed) → AreTold jobs part → filter (λ l. is (job_at jobs l)) part ≡ filter same part =
          λ part true_of. filter_alike (λ l. is (job_at jobs l)) same part (All-weaker (λ l. submit_of (job_at jobs l) ≡ l.submit) (λ l. is (job_at jobs l) ≡ same l) (λ l at. ap (λ n. not (is_lt (nat_cmp (submit_of z) n)) && not (is_lt (nat_cmp n (submit_of z)))) at) part true_of) in
          filter-map is (job_at jobs) after
          ∙ ap (map (job_at jobs)) (alike after behind ∙ order.stable (record { submit = submit_of z; place = 0 }) ∙ sym (alike before told))
          ∙ sym (filter-map is (job_at jobs) before);
    }

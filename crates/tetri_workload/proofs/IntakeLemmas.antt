-- Jobs that come, that are handled, and that are put in order.
use Rattle.std.proofs.Common.{◌≡◌, ◌+◌, ◌*◌, ◌<◌, ◌≤◌, ◌∙◌, ◌++◌, ◌∷◌, ◌⊎◌, inl, inr, [], ℕ, List, Bool, true, false, cond, not, ◌&&◌, refl, ap, sym, subst, arith, append_assoc, true≢false}
use Rattle.std.specs.Prelude.{Contains, IfSome, Option, Some, None, Result, Ok, Err, is_ok, nat_lt}
use Rattle.std.proofs.lemmas.Bool.Decides.{nat_tests}
use Rattle.std.proofs.lemmas.List.Elements.{All-push, All-tail, Contains-append_left, Contains-append_right, Contains-push}
use Rattle.std.proofs.lemmas.List.Sorted.{Contains-permutation, IsPermutation-sym}
use Rattle.std.proofs.lemmas.List.Sums.{fold-append}
use Rattle.std.proofs.lemmas.Option.{IfSome_then}
use Rattle.tetri_logs.specs.Origin.{is_in_run, may_begin}
use Rattle.tetri_logs.specs.Options.{AreGood}
use Rattle.tetri_logs.specs.Placing.{is_outside, place}
use Rattle.tetri_cluster.specs.Names.{number_of}
use Rattle.tetri_logs.specs.declared.account.Account.{Account}
use Rattle.tetri_logs.specs.declared.entry.Cause.{Cause}
use Rattle.tetri_logs.specs.declared.entry.Cause.TheVariants.{Beyond, Outside}
use Rattle.tetri_logs.specs.declared.placing.Placing.{Placing}
use Rattle.tetri_logs.proofs.PlaceLaws.{outside-begins, outside-placeless, placed-begins, placed-behind, placed-in_run}
use Rattle.tetri_trace.specs.Scenario.{job_names}
use Rattle.tetri_logs.specs.Scale.{moment_of}
use Rattle.tetri_logs.specs.declared.entry.LoggedJob.{LoggedJob}
use Rattle.tetri_logs.specs.declared.options.Options.{Options}
use Rattle.tetri_logs.specs.declared.options.Settings.{Settings}
use Rattle.tetri_workload.specs.Ordering.{IsMoveBy}
use Rattle.tetri_workload.specs.Reading.{AreHandled, AreJoined, AreWanted, ComeInTurn, HasBridge, HasPlaced, IsHandled, IsJoinedBy, IsNear, MayLeave, is_placed, last_behind}
use Rattle.tetri_workload.specs.Taking.{is_full, left_out, named, nothing_taken, so_far, with_logged, with_placed}
use Rattle.tetri_workload.specs.declared.intake.Intake.{Intake}
use Rattle.tetri_workload.proofs.OrderLemmas.{IsMoveBy-append, IsMoveBy-before, IsMoveBy-past, IsMoveBy-sym, IsMoveBy-trans}
use Rattle.tetri_workload.proofs.EntryLemmas.{submit_of}
use Rattle.tetri_workload.proofs.WaitingLemmas.{IsApart}

-- ---- with more jobs that have come
bridge-more : (s : Settings) (jobs more : List LoggedJob) → HasBridge s jobs → HasBridge s (jobs ++ more)
bridge-more s jobs more bridge =
    let b = bridge.2 in (
      bridge.0,
      bridge.1,
      record {
        has_early = Contains-append_left jobs more bridge.0 b.has_early;
        begins = b.begins;
        in_run = b.in_run;
        has_late = Contains-append_left jobs more bridge.1 b.has_late;
        may = b.may;
        beyond = b.beyond;
        near = b.near;
      },
    )

joined-more : (s : Settings) (o : Options) (jobs more : List LoggedJob) → AreJoined s o jobs → AreJoined s o (jobs ++ more)
joined-more s o jobs more (inl given) = inl given
joined-more s o jobs more (inr bridge) = inr (bridge-more s jobs more bridge)

placed-more : (s : Settings) (jobs more : List LoggedJob) (submit : ℕ) → HasPlaced s jobs submit → HasPlaced s (jobs ++ more) submit
placed-more s jobs more submit has = (has.0, Contains-append_left jobs more has.0 has.1, has.2, has.3)

-- ---- jobs that come, and jobs that are put in order
pub arrived : (s : Settings) (o : Options) (all rest : List LoggedJob) (i : Intake) (more : List LoggedJob) → AreHandled s o all rest i → AreHandled s o (all ++ more) (rest ++ more) i
arrived s o all rest i more given =
    let order = given.0 in
    let h = given.1 in (
      order,
      record {
        moved = subst (IsMoveBy submit_of (all ++ more)) (append_assoc order rest more) (IsMoveBy-before submit_of more all (order ++ rest) h.moved);
        tally = h.tally;
        turns = h.turns;
        begins = h.begins;
        early = h.early;
        joined = λ is. joined-more s o all more (h.joined is);
        placed = IfSome_then i.placed h.placed (λ submit has. placed-more s all more submit has);
      },
    )

pub put_in_order : (s : Settings) (o : Options) (all rest sorted : List LoggedJob) (i : Intake) → IsMoveBy submit_of rest sorted → AreHandled s o all rest i → AreHandled s o all sorted i
put_in_order s o all rest sorted i moves given =
    let order = given.0 in
    let h = given.1 in (
      order,
      record {
        moved = IsMoveBy-trans submit_of all (order ++ rest) (order ++ sorted) h.moved (IsMoveBy-append submit_of order rest sorted moves);
        tally = h.tally;
        turns = h.turns;
        begins = h.begins;
        early = h.early;
        joined = h.joined;
        placed = h.placed;
      },
    )

-- what is held back has no part in it
pub held-other : (s : Settings) (o : Options) (all rest : List LoggedJob) (i j : Intake) → so_far j.taken ≡ so_far i.taken → j.last ≡ i.last → j.placed ≡ i.placed → j.joined ≡ i.joined
    → AreHandled s o all rest i → AreHandled s o all rest j
held-other s o all rest i j taken last placed joined given =
    let h = given.1 in (
      given.0,
      record {
        moved = h.moved;
        tally = taken ∙ h.tally;
        turns = λ later comes. h.turns later (subst (λ t. ComeInTurn s t i.last later) taken (subst (λ n. ComeInTurn s (so_far j.taken) n later) last comes));
        begins = h.begins;
        early = λ is. h.early (sym joined ∙ is);
        joined = λ is. h.joined (sym joined ∙ is);
        placed = subst (λ p. IfSome p (HasPlaced s all)) (sym placed) h.placed;
      },
    )

-- ---- a job that is handled
-- what changes when a job is handled
pub record IsStep (s : Settings) (o : Options) (all : List LoggedJob) (i j : Intake) (job : LoggedJob) : Type 0 where
  pub tally : so_far j.taken ≡ with_logged s (so_far i.taken) job
  pub in_turn : is_placed s job ≡ true → i.last ≤ job.account.submit
  pub last : j.last ≡ last_behind s (so_far i.taken) i.last job
  pub begins : may_begin s job.account ≡ true → s.origin ≤ moment_of s job.account
  pub was : j.joined ≡ false → i.joined ≡ false
  pub early : j.joined ≡ false → may_begin s job.account ≡ true → is_in_run s job.account ≡ true
  pub joined : j.joined ≡ true → AreJoined s o all
  pub placed : IfSome j.placed (HasPlaced s all)

pub handled-step : (s : Settings) (o : Options) (all rest : List LoggedJob) (i j : Intake) (job : LoggedJob) (order : List LoggedJob)
    → IsHandled s o all (job ∷ rest) i order → IsStep s o all i j job → IsHandled s o all rest j (order ++ job ∷ [])
handled-step s o all rest i j job order h step = record {
  moved = subst (IsMoveBy submit_of all) (sym (append_assoc order (job ∷ []) rest)) h.moved;
  tally = step.tally ∙ ap (λ t. with_logged s t job) h.tally ∙ sym (fold-append (with_logged s) nothing_taken order (job ∷ []));
  turns = λ later comes. subst (ComeInTurn s nothing_taken 0) (sym (append_assoc order (job ∷ []) later))
      (h.turns (job ∷ later) (step.in_turn, subst (λ n. ComeInTurn s (with_logged s (so_far i.taken) job) n later) step.last (subst (λ t. ComeInTurn s t j.last later) step.tally comes)));
  begins = All-push (λ x. may_begin s x.account ≡ true → s.origin ≤ moment_of s x.account) order job h.begins step.begins;
  early = λ not. All-push (λ x. may_begin s x.account ≡ true → is_in_run s x.account ≡ true) order job (h.early (step.was not)) (step.early not);
  joined = step.joined;
  placed = step.placed;
}

-- the next job is one of those that have come
pub next_there : (s : Settings) (o : Options) (all rest : List LoggedJob) (i : Intake) (job : LoggedJob) (order : List LoggedJob) → IsHandled s o all (job ∷ rest) i order → Contains all job
next_there s o all rest i job order h =
    Contains-permutation (order ++ job ∷ rest) all job (IsPermutation-sym all (order ++ job ∷ rest) h.moved.moved)
    (Contains-append_right order (job ∷ rest) job (Contains-append_left (job ∷ []) rest job (Contains-push [] job)))

-- ---- a job without a place
left-last : (b full : Bool) (last submit : ℕ) → b ≡ false → last ≡ cond (b && not full) submit last
left-last true full last submit is = absurd (true≢false is)
left-last false full last submit is = refl

-- it is left out
pub left-step : (s : Settings) (o : Options) (all rest : List LoggedJob) (i j : Intake) (job : LoggedJob) (order : List LoggedJob) (cause : Cause)
    → IsHandled s o all (job ∷ rest) i order
    → place s job.account ≡ Err cause
    → so_far j.taken ≡ left_out (so_far i.taken) job.line cause
    → j.last ≡ i.last
    → j.placed ≡ i.placed
    → (may_begin s job.account ≡ true → s.origin ≤ moment_of s job.account)
    → (j.joined ≡ false → i.joined ≡ false)
    → (j.joined ≡ false → may_begin s job.account ≡ true → is_in_run s job.account ≡ true)
    → (j.joined ≡ true → AreJoined s o all)
    → AreHandled s o all rest j
left-step s o all rest i j job order cause h refused left last placed begins was early joined =
    let not : is_placed s job ≡ false = ap is_ok refused in (
      order ++ job ∷ [],
      handled-step s o all rest i j job order h
          (record {
            tally = left ∙ ap (λ r. with_placed s (so_far i.taken) job.line job.account.submit job.name job.set r) (sym refused);
            in_turn = λ is. absurd (true≢false (sym is ∙ not));
            last = last ∙ left-last (is_placed s job) (is_full s (so_far i.taken)) i.last job.account.submit not;
            begins = begins;
            was = was;
            early = early;
            joined = joined;
            placed = subst (λ p. IfSome p (HasPlaced s all)) (sym placed) h.placed;
          }),
    )

-- a job outside the wanted part of the log is left out at once: none of those within it was submitted in its second
apart : (s : Settings) (job : LoggedJob) (jobs : List LoggedJob) → is_outside s (moment_of s job.account) ≡ true → AreWanted s jobs → IsApart (submit_of job) jobs
apart s job jobs outside wanted = λ k d within same. absurd (differ (ap (λ n. is_outside s (s.start + n)) same) outside (wanted k d within))
  where
    differ : {a b : Bool} → a ≡ b → a ≡ true → b ≡ false → ⊥
    differ same one other = cc

pub left-outside : (s : Settings) (o : Options) (all held : List LoggedJob) (i j : Intake) (job : LoggedJob)
    → is_outside s (moment_of s job.account) ≡ true
    → AreWanted s held
    → so_far j.taken ≡ left_out (so_far i.taken) job.line Outside
    → j.last ≡ i.last
    → j.placed ≡ i.placed
    → j.joined ≡ i.joined
    → AreHandled s o all held i → AreHandled s o (all ++ job ∷ []) held j
left-outside s o all held i j job outside wanted left last placed joined given =
    let more = all ++ job ∷ [] in
    let never : may_begin s job.account ≡ true → ⊥ = λ is. true≢false (sym is ∙ outside-begins s job.account outside) in
    let first : AreHandled s o more (job ∷ held) i =
    put_in_order s o more (held ++ job ∷ []) (job ∷ held) i (IsMoveBy-sym submit_of (job ∷ held) (held ++ job ∷ []) (IsMoveBy-past submit_of job held (apart s job held outside wanted))) (arrived s o all held i (job ∷ []) given) in
    let h = first.1 in
    left-step s o more held i j job first.0 Outside h (outside-placeless s job.account outside) left last placed (λ is. absurd (never is)) (λ is. sym joined ∙ is) (λ not is. absurd (never is))
    (λ is. h.joined (sym joined ∙ is))

-- ---- a job with a place
took-last : (b full : Bool) (last submit : ℕ) → b ≡ true → cond full last submit ≡ cond (b && not full) submit last
took-last true true last submit is = refl
took-last true false last submit is = refl
took-last false full last submit is = absurd (true≢false (sym is))

-- it is taken, or left out for its name or since the trace is full
pub took-step : (s : Settings) (o : Options) (all rest : List LoggedJob) (i j : Intake) (job : LoggedJob) (order : List LoggedJob) (p : Placing)
    → AreGood s
    → IsHandled s o all (job ∷ rest) i order
    → place s job.account ≡ Ok p
    → so_far j.taken ≡ named s (so_far i.taken) job.line job.account.submit job.name job.set p (number_of job.name (job_names (so_far i.taken).jobs))
    → i.last ≤ job.account.submit
    → j.last ≡ cond (is_full s (so_far i.taken)) i.last job.account.submit
    → j.placed ≡ Some job.account.submit
    → j.joined ≡ i.joined
    → AreHandled s o all rest j
took-step s o all rest i j job order p good h has took behind last placed joined =
    let is : is_placed s job ≡ true = ap is_ok has in
    let there : HasPlaced s all job.account.submit = (job, next_there s o all rest i job order h, is, refl) in (
      order ++ job ∷ [],
      handled-step s o all rest i j job order h
          (record {
            tally = took ∙ ap (λ r. with_placed s (so_far i.taken) job.line job.account.submit job.name job.set r) (sym has);
            in_turn = λ _. behind;
            last = last ∙ took-last (is_placed s job) (is_full s (so_far i.taken)) i.last job.account.submit is;
            begins = λ _. placed-behind s job.account is;
            was = λ not. sym joined ∙ not;
            early = λ _ _. placed-in_run s job.account good is;
            joined = λ yes. h.joined (sym joined ∙ yes);
            placed = subst (λ q. IfSome q (HasPlaced s all)) (sym placed) there;
          }),
    )

-- a job with a place that is one more than a trace takes, whatever its name is
pub no_room-step : (s : Settings) (o : Options) (all rest : List LoggedJob) (i j : Intake) (job : LoggedJob)
    → AreGood s
    → is_placed s job ≡ true
    → i.last ≤ job.account.submit
    → is_full s (so_far i.taken) ≡ true
    → ((p : Placing) → (number : Option ℕ) → named s (so_far i.taken) job.line job.account.submit job.name job.set p number ≡ left_out (so_far i.taken) job.line Beyond)
    → so_far j.taken ≡ left_out (so_far i.taken) job.line Beyond
    → j.last ≡ i.last
    → j.placed ≡ Some job.account.submit
    → j.joined ≡ i.joined
    → AreHandled s o all (job ∷ rest) i → AreHandled s o all rest j
no_room-step s o all rest i j job good has behind full beyond left last placed joined given = by (place s job.account) refl has
  where
    by : (r : Result Placing Cause) → place s job.account ≡ r → is_ok r ≡ true → AreHandled s o all rest j
    by (Ok p) is ok =
        took-step s o all rest i j job given.0 p good given.1 is (left ∙ sym (beyond p (number_of job.name (job_names (so_far i.taken).jobs)))) behind
        (last ∙ sym (ap (λ b. cond b i.last job.account.submit) full)) placed joined
    by (Err cause) is ok = absurd (true≢false (sym ok))

-- ---- late jobs
-- a job that comes too late joins others to those that come early enough
bridge-by : (s : Settings) (all : List LoggedJob) (job : LoggedJob) (placed : Option ℕ) → AreGood s → Contains all job → IfSome placed (HasPlaced s all) → may_begin s job.account ≡ true
    → is_in_run s job.account ≡ false → IsNear s placed job.account → HasBridge s all
bridge-by s all job None good here has may beyond near = absurd near
bridge-by s all job (Some submit) good here has may beyond near = (
  has.0,
  job,
  record {
    has_early = has.1;
    begins = placed-begins s has.0.account good has.2;
    in_run = placed-in_run s has.0.account good has.2;
    has_late = here;
    may = may;
    beyond = beyond;
    near = subst (λ n. moment_of s job.account < s.start + n + 10000 * s.slot) (sym has.3) near;
  },
)

pub joined-by : (s : Settings) (o : Options) (all rest : List LoggedJob) (i : Intake) (job : LoggedJob) (order : List LoggedJob) → AreGood s → IsHandled s o all (job ∷ rest) i order
    → IsJoinedBy s i job.account → AreJoined s o all
joined-by s o all rest i job order good h joins =
    inr (bridge-by s all job i.placed good (next_there s o all rest i job order h) h.placed joins.may joins.beyond joins.near)

-- it does not come before slot 0
beyond-behind : (s : Settings) (second : ℕ) → nat_lt second (s.origin + 10000 * s.slot) ≡ false → s.origin ≤ second
beyond-behind s second not = grind (arith, nat_tests, not)

pub joins-behind : (s : Settings) (i : Intake) (a : Account) → IsJoinedBy s i a → s.origin ≤ moment_of s a
joins-behind s i a joins = beyond-behind s (moment_of s a) joins.beyond

-- a job without a place that may be left out
pub passed-step : (s : Settings) (o : Options) (all rest : List LoggedJob) (i j : Intake) (job : LoggedJob) (cause : Cause)
    → AreGood s
    → place s job.account ≡ Err cause
    → MayLeave s i job.account j.joined
    → so_far j.taken ≡ left_out (so_far i.taken) job.line cause
    → j.last ≡ i.last
    → j.placed ≡ i.placed
    → AreHandled s o all (job ∷ rest) i → AreHandled s o all rest j
passed-step s o all rest i j job cause good refused may left last placed given =
    left-step s o all rest i j job given.0 cause given.1 refused left last placed may.begins may.was may.early (λ is. by (may.by is))
  where
    by : (i.joined ≡ true) ⊎ IsJoinedBy s i job.account → AreJoined s o all
    by (inl was) = given.1.joined was
    by (inr joins) = joined-by s o all rest i job given.0 good given.1 joins

-- ---- the wanted part
-- the last of wanted jobs are wanted
pub wanted-behind : (s : Settings) (xs ys : List LoggedJob) → AreWanted s (xs ++ ys) → AreWanted s ys
wanted-behind s [] ys wanted = wanted
wanted-behind s (x ∷ xs) ys wanted = wanted-behind s xs ys (All-tail (λ j. is_outside s (moment_of s j.account) ≡ false) x (xs ++ ys) wanted)

-- ---- a job that passes those that wait
-- a job that was submitted in the second of none of these comes before them
pub comes-first : (s : Settings) (o : Options) (all rest : List LoggedJob) (i : Intake) (job : LoggedJob) → IsApart (submit_of job) rest
    → AreHandled s o all rest i → AreHandled s o (all ++ job ∷ []) (job ∷ rest) i
comes-first s o all rest i job apart given =
    put_in_order s o (all ++ job ∷ []) (rest ++ job ∷ []) (job ∷ rest) i
    (IsMoveBy-sym submit_of (job ∷ rest) (rest ++ job ∷ []) (IsMoveBy-past submit_of job rest apart))
    (arrived s o all rest i (job ∷ []) given)

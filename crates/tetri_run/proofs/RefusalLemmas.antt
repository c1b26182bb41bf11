-- A report is refused at one line and for one cause.
use Rattle.std.proofs.Common.{◌≡◌, ℕ, ◌+◌, ◌<◌, List, [], ◌∷◌, sym, ap, ◌∙◌, refl, subst, arith, ⊎_elim}
use Rattle.std.specs.Prelude.{Option, Some, Result, Ok, Err}
use Rattle.std.proofs.lemmas.Option.{same_Some}
use Rattle.tetri_judge.specs.Places.{place_of}
use Rattle.tetri_judge.specs.PlanOf.{planned}
use Rattle.tetri_judge.specs.Verdict.{IsFirstFailed}
use Rattle.tetri_judge.proofs.VerdictLaws.{one_verdict, passing_is_not_refused}
use Rattle.tetri_report.specs.Block.{Block}
use Rattle.tetri_report.specs.BlockLines.{block_lines}
use Rattle.tetri_report.specs.Reading.{line_answer}
use Rattle.tetri_report.specs.declared.cycle.Summary.{Summary}
use Rattle.tetri_report.proofs.ReportLaws.{differ_once}
use Rattle.tetri_space.specs.Total.{total_in}
use Rattle.tetri_state.specs.Reached.{IsReached, between}
use Rattle.tetri_state.specs.Snapshot.{Snapshot}
use Rattle.tetri_trace.specs.Scenario.{Scenario}
use Rattle.tetri_trace.specs.Sound.{IsSound}
use Rattle.tetri_run.specs.Check.{Checking, ComesTo, IsInPlace, IsPassed, IsRefused, IsRefusedAt, IsRight, checked_behind, faulty, lines_in, malformed, out_of_place, too_long, unchecked}
use Rattle.tetri_run.specs.Checked.{IsInOrder}
use Rattle.tetri_run.specs.Faulty.{IsFaulty, corrected_at, planned_badly, told_badly, why_of}
use Rattle.tetri_run.specs.Run.{IsRun, state_behind}
use Rattle.tetri_run.specs.declared.why.Why.{Why}
use Rattle.tetri_run.proofs.CheckLemmas.{carry_same, instance_good, ok_not_err, ok_same, right_is_not_faulty, run_on}
use Rattle.tetri_run.proofs.RunLemmas.{run_reaches}
use Rattle.tetri_cycles.proofs.CycleLaws.{now_behind}
use Rattle.tetri_run.specs.Telling.{block_cycles}
use Rattle.tetri_run.proofs.StepLemmas.{in_order_on, not_closed, unchecked_in_order}
use Rattle.tetri_state.specs.Planning.{instance_at}

-- How a check stands between two lines: the cycles that were accepted are a run, and the lines so far may stand.
record IsSane (t : Scenario) (c : Checking) : Type 0 where
  pub run : IsRun t c.past
  pub order : IsInOrder c.first c.reading
  pub place : IsInPlace t c

abbrev AreOne : (line other : ℕ) (why because : Why) → Type 0
AreOne line other why because = (line ≡ other) × (why ≡ because)

module _ (t : Scenario) (sound : IsSound t) where
  -- a cycle has one fault
  one_fault : (s : Snapshot) (b : Block) (place other : ℕ) (why because : Why) → IsReached t between s → s.now < t.header.until → IsFaulty t s b place why → IsFaulty t s b other because →
      AreOne place other why because
  one_fault s b place other why because reached more (planned_badly carry v first carried failed is) (planned_badly again w second too fails are) =
      let i = instance_at t s in
      let same : carry ≡ again = carry_same i s.plan carry again carried too in
      let e : v ≡ w = one_verdict i (total_in i again) t.header.budget (planned b) (instance_good t sound s reached more) v w
      (subst (λ c. IsFirstFailed i (total_in i c) t.header.budget (planned b) v) same failed) fails in
      (ap (place_of b) e, same_Some _ _ (sym is ∙ ap why_of e ∙ are))
  one_fault s b place other why because reached more (planned_badly carry v first carried failed is) (told_badly again at too tests differ) =
      let i = instance_at t s in
      let same : carry ≡ again = carry_same i s.plan carry again carried too in
      absurd (passing_is_not_refused i (total_in i again) t.header.budget (planned b) (instance_good t sound s reached more) v
      (subst (λ c. IsFirstFailed i (total_in i c) t.header.budget (planned b) v) same failed) tests)
  one_fault s b place other why because reached more (told_badly carry at carried tests differ) (planned_badly again w second too fails are) =
      let i = instance_at t s in
      let same : again ≡ carry = carry_same i s.plan again carry too carried in
      absurd (passing_is_not_refused i (total_in i carry) t.header.budget (planned b) (instance_good t sound s reached more) w
      (subst (λ c. IsFirstFailed i (total_in i c) t.header.budget (planned b) w) same fails) tests)
  one_fault s b place other why because reached more (told_badly carry at carried tests differ) (told_badly again also too passed differs) =
      (differ_once (block_lines b) (block_lines (corrected_at t s b)) place other differ differs, refl)

  module _ (c : Checking) (line : List ℕ) (sane : IsSane t c) where
    reached_here : IsReached t between (state_behind t c.past)
    reached_here = run_reaches t c.past sane.run

    more_here : (ended : Option Block) → line_answer t c.reading line ≡ Ok ended → (state_behind t c.past).now < t.header.until
    more_here ended answer = omega (arith, now_behind block_cycles t c.past, not_closed t c line ended answer sane.order sane.place)

    not_right_and_faulty : (b : Block) (place : ℕ) (why : Why) (ended : Option Block) → line_answer t c.reading line ≡ Ok (Some b) → IsFaulty t (state_behind t c.past) b place why →
        line_answer t c.reading line ≡ Ok ended → IsRight t c ended → ⊥
    not_right_and_faulty b place why ended answer fault reads right =
        right_is_not_faulty t sound (state_behind t c.past) b place why reached_here (more_here (Some b) answer)
        (subst (IsRight t c) (ok_same (sym reads ∙ answer)) right) fault

    -- a line shows one fault
    one_refusal : (number other : ℕ) (why because : Why) → IsRefused t c line number why → IsRefused t c line other because → AreOne number other why because
    one_refusal number other why because (too_long long) (too_long longer) = (refl, refl)
    one_refusal number other why because (too_long long) (malformed n short answer) = absurd (omega (arith, long, short))
    one_refusal number other why because (too_long long) (faulty b place w short answer fault) = absurd (omega (arith, long, short))
    one_refusal number other why because (too_long long) (out_of_place ended short answer right not) = absurd (omega (arith, long, short))
    one_refusal number other why because (malformed n short answer) (too_long longer) = absurd (omega (arith, longer, short))
    one_refusal number other why because (malformed n short answer) (malformed m shorter reads) = (err_same (sym answer ∙ reads), refl)
      where
        err_same : ◌≡◌ {A = Result (Option Block) ℕ} (Err n) (Err m) → n ≡ m
        err_same e = cc
    one_refusal number other why because (malformed n short answer) (faulty b place w shorter reads fault) = absurd (ok_not_err (sym reads ∙ answer))
    one_refusal number other why because (malformed n short answer) (out_of_place ended shorter reads right not) = absurd (ok_not_err (sym reads ∙ answer))
    one_refusal number other why because (faulty b place w short answer fault) (too_long longer) = absurd (omega (arith, longer, short))
    one_refusal number other why because (faulty b place w short answer fault) (malformed m shorter reads) = absurd (ok_not_err (sym answer ∙ reads))
    one_refusal number other why because (faulty b place w short answer fault) (faulty d at x shorter reads faults) =
        let same : d ≡ b = same_Some _ _ (ok_same (sym reads ∙ answer)) in
        let one = one_fault (state_behind t c.past) b place at why because reached_here (more_here (Some b) answer) fault
        (subst (λ e. IsFaulty t (state_behind t c.past) e at because) same faults) in
        (ap (λ n. c.first + n) one.0, one.1)
    one_refusal number other why because (faulty b place w short answer fault) (out_of_place ended shorter reads right not) =
        absurd (not_right_and_faulty b place why ended answer fault reads right)
    one_refusal number other why because (out_of_place ended short answer right not) (too_long longer) = absurd (omega (arith, longer, short))
    one_refusal number other why because (out_of_place ended short answer right not) (malformed m shorter reads) = absurd (ok_not_err (sym answer ∙ reads))
    one_refusal number other why because (out_of_place ended short answer right not) (faulty b place w shorter reads fault) =
        absurd (not_right_and_faulty b place because ended reads fault answer right)
    one_refusal number other why because (out_of_place ended short answer right not) (out_of_place another shorter reads rights nots) = (refl, refl)

    -- a line that passes shows no fault
    passed_not_refused : (behind : Checking) (number : ℕ) (why : Why) → IsPassed t c line behind → IsRefused t c line number why → ⊥
    passed_not_refused behind number why passed (too_long long) = omega (arith, long, passed.short)
    passed_not_refused behind number why passed (malformed n short answer) = ok_not_err (sym passed.reads ∙ answer)
    passed_not_refused behind number why passed (faulty b place w short answer fault) = not_right_and_faulty b place why passed.ended answer fault passed.reads passed.right
    passed_not_refused behind number why passed (out_of_place ended short answer right not) =
        not (subst (IsInPlace t) (passed.is ∙ ap (checked_behind t c line) (ok_same (sym passed.reads ∙ answer))) passed.in_place)

    passed_once : (behind other : Checking) → IsPassed t c line behind → IsPassed t c line other → behind ≡ other
    passed_once behind other one two = one.is ∙ ap (checked_behind t c line) (ok_same (sym one.reads ∙ two.reads)) ∙ sym two.is

    sane_on : (behind : Checking) → IsPassed t c line behind → IsSane t behind
    sane_on behind passed =
        let next = checked_behind t c line passed.ended in
        let place : IsInPlace t next = subst (IsInPlace t) passed.is passed.in_place in
        subst (IsSane t) (sym passed.is)
        (record {
          run = run_on t c passed.ended next.reading.summary sane.run passed.right place;
          order = in_order_on t c line passed.ended passed.reads sane.order;
          place = place;
        })

  one_outcome : (c : Checking) (rest : List (List ℕ)) → IsSane t c → (number other : ℕ) (why because : Why) → ComesTo t c rest (Err (number, why)) → ComesTo t c rest (Err (other, because)) →
      AreOne number other why because
  one_outcome c [] sane number other why because ends end = (err_same (sym ends.1 ∙ end.1), ends.0 ∙ sym end.0)
    where
      err_same : ◌≡◌ {A = Result Summary ℕ} (Err number) (Err other) → number ≡ other
      err_same e = cc
  one_outcome c (line ∷ rest) sane number other why because comes come =
      ⊎_elim
      (λ refused.
      ⊎_elim (λ again. one_refusal c line sane number other why because refused again) (λ on. absurd (passed_not_refused c line sane on.0 number why on.1 refused)) come)
      (λ on.
      ⊎_elim
      (λ refused. absurd (passed_not_refused c line sane on.0 other because on.1 refused))
      (λ also.
      one_outcome on.0 rest (sane_on c line sane on.0 on.1) number other why because on.2
      (subst (λ (d : Checking). ComesTo t d rest (Err (other, because))) (passed_once c line sane also.0 on.0 also.1 on.1) also.2))
      come)
      comes

  pub refused_once : (bytes : List ℕ) (line other : ℕ) (why because : Why) → IsRefusedAt t bytes line why → IsRefusedAt t bytes other because → (line ≡ other) × (why ≡ because)
  refused_once bytes line other why because = one_outcome unchecked (lines_in bytes)
      (record { run = tt; order = unchecked_in_order; place = omega (arith, sound.header.some_cycles) }) line other why because

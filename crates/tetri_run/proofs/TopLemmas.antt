-- What a call says once its trace was read.
use Rattle.std.proofs.Common.{◌≡◌, ◌∙◌, ◌<◌, ◌⊎◌, ⊎_elim, ℕ, List, [], ◌∷◌, ◌++◌, length, take, ap, refl, sym, subst, inl, inr, arith}
use Rattle.std.specs.Io.KnownBytes.{append_known}
use Rattle.std.proofs.lemmas.Option.{same_Some}
use Rattle.tetri_report.specs.Text.{summary_text}
use Rattle.std.specs.Prelude.{Option, Some, Result, Ok}
use Rattle.tetri_report.specs.Block.{Block}
use Rattle.tetri_trace.specs.Lines.{scenario_in}
use Rattle.tetri_trace.specs.Scenario.{Scenario}
use Rattle.tetri_notice.specs.declared.fault.TraceWhy.{TraceWhy}
use Rattle.tetri_advice.specs.Heard.{Heard}
use Rattle.tetri_advice.specs.Seat.{Seat}
use Rattle.tetri_trace.specs.Sound.{IsSound}
use Rattle.tetri_run.specs.Advised.{IsAdvisedRun}
use Rattle.tetri_run.specs.Check.{IsAccepted}
use Rattle.tetri_cycles.specs.Told.{AreTold, NextText, cycle, summary, StoppedBetween, StoppedInText, WroteRun}
use Rattle.tetri_cycles.proofs.CycleLaws.{append_known-nil, between_of, stopped_of}
use Rattle.tetri_run.specs.Progress.{StoppedInSummary, WroteReport}
use Rattle.tetri_run.specs.Promised.{IsPromisedBy}
use Rattle.tetri_run.specs.Run.{AnyLists, IsPlannedRun, summary_of}
use Rattle.tetri_cycles.specs.Progress.{ArePlanned, IsRunBy}
use Rattle.tetri_run.specs.Chosen.{IsChosenRun, by_chooser}
use Rattle.tetri_run.specs.Telling.{block_cycles}
use Rattle.tetri_run.specs.Status.{IsCheckAnswer, IsCheckPromised, IsLoadAnswer, IsPromised, IsPromisedOf, IsRefusal, IsRunAnswer}
use Rattle.tetri_run.specs.declared.telling.Telling.{Telling}
use Rattle.tetri_run.specs.declared.telling.Telling.TheVariants.{Report, Untold}
use Rattle.tetri_run.proofs.AdvisedLemmas.{any_run}
use Rattle.tetri_run.proofs.ReadBackLemmas.{planned_is_told, wrote_report}
use Rattle.tetri_run.specs.Words.{Asked}
use Rattle.tetri_run.specs.declared.status.Status.{Status}
use Rattle.tetri_run.specs.declared.status.Status.TheVariants.{Done, Refused, Usage, ReadFault, WriteFault, BadTrace, NoMemory}

pub check_promised : (status : Status) (trace : Result Scenario (ℕ × TraceWhy)) (t : Scenario) (report : List ℕ) (before after : Option (List ℕ)) → trace ≡ Ok t →
    IsCheckAnswer status t report before after → IsCheckPromised status trace report before after
check_promised Done trace t report before after is answer = (t, is, answer)
check_promised (Refused line why) trace t report before after is answer = (t, is, answer)
check_promised Usage trace t report before after is answer = tt
check_promised ReadFault trace t report before after is answer = tt
check_promised WriteFault trace t report before after is answer = (t, is, answer)
check_promised (BadTrace line why) trace t report before after is answer = absurd answer
check_promised NoMemory trace t report before after is answer = tt

-- a report that is not accepted is refused, where nothing kept it from being read
pub rejected : (status : Status) (t : Scenario) (report : List ℕ) (before after : Option (List ℕ)) → IsCheckAnswer status t report before after → (IsAccepted t report → ⊥) →
    (status ≡ ReadFault → ⊥) → IsRefusal status t report ⊎ (status ≡ NoMemory)
rejected Done t report before after answer not quiet = absurd (not answer.0.accepted)
rejected (Refused line why) t report before after answer not quiet = inl answer.0
rejected Usage t report before after answer not quiet = absurd answer
rejected ReadFault t report before after answer not quiet = absurd (quiet refl)
rejected WriteFault t report before after answer not quiet = absurd (not answer.0.accepted)
rejected (BadTrace line why) t report before after answer not quiet = absurd answer
rejected NoMemory t report before after answer not quiet = inr refl

-- a content is one trace
pub same_scenario : (content : List ℕ) (t s : Scenario) → scenario_in content ≡ Ok t → scenario_in content ≡ Ok s → t ≡ s
same_scenario content t s e f = ok_same (sym e ∙ f)
  where
    ok_same : ◌≡◌ {A = Result Scenario (ℕ × TraceWhy)} (Ok t) (Ok s) → t ≡ s
    ok_same e = cc

-- what is true of what the words ask is true of all that they are said to ask
pub by_asked : (Holds : Asked → Type 0) (b a : Asked) (o : Option Asked) → Some b ≡ o → o ≡ Some a → Holds b → Holds a
by_asked Holds b a o e f holds = subst Holds (same_Some _ _ (e ∙ f)) holds

-- ---- a run
-- a run that is such is such another one
module _ (IsSuch IsOther : Scenario → List Block → Type 0) (other : (t : Scenario) (past : List Block) → IsSuch t past → IsOther t past) where
  pub promise_weakens : (status : Status) (trace : Result Scenario (ℕ × TraceWhy)) (before after : Option (List ℕ)) → IsPromisedOf IsSuch status trace before after →
      IsPromisedOf IsOther status trace before after
  promise_weakens Done trace before after promise =
      let w = promise.2 in
      (promise.0, promise.1, record { past = w.past; run = other promise.0 w.past w.run; whole = w.whole; written = w.written; reads = w.reads; accepted = w.accepted })
  promise_weakens (Refused line why) trace before after promise = promise
  promise_weakens Usage trace before after promise = tt
  promise_weakens ReadFault trace before after promise = tt
  promise_weakens WriteFault trace before after promise =
      (promise.0, promise.1, stopped_of block_cycles Report IsSuch IsOther promise.0 (other promise.0) before after promise.2)
  promise_weakens (BadTrace line why) trace before after promise = promise
  promise_weakens NoMemory trace before after promise =
      ⊎_elim inl (λ stopped. inr (stopped.0, stopped.1, between_of block_cycles Report IsSuch IsOther stopped.0 (other stopped.0) before after stopped.2)) promise

-- ---- what a run that is told answers
-- of a trace that was read
module _ (trace : Result Scenario (ℕ × TraceWhy)) (t : Scenario) (is : trace ≡ Ok t) where
  pub answer_promised : (telling : Telling) (IsSuch : Scenario → List Block → Type 0) (Wrote : Scenario → Option (List ℕ) → Option (List ℕ) → Type 0) (status : Status)
      (before after : Option (List ℕ)) → (WroteRun block_cycles telling IsSuch t before after → Wrote t before after) → IsRunAnswer telling IsSuch status t before after →
      IsPromisedBy Wrote (StoppedInText block_cycles telling IsSuch) (StoppedBetween block_cycles telling IsSuch) status trace before after
  answer_promised telling IsSuch Wrote Done before after whole answer = (t, is, whole answer)
  answer_promised telling IsSuch Wrote (Refused line why) before after whole answer = answer
  answer_promised telling IsSuch Wrote Usage before after whole answer = tt
  answer_promised telling IsSuch Wrote ReadFault before after whole answer = tt
  answer_promised telling IsSuch Wrote WriteFault before after whole answer = (t, is, answer)
  answer_promised telling IsSuch Wrote (BadTrace line why) before after whole answer = absurd answer
  answer_promised telling IsSuch Wrote NoMemory before after whole answer = inr (t, is, answer)

  -- the report of a run that a panel advised
  module _ (sound : IsSound t) (sat : List Seat) (missed now : ℕ) (status : Status) (before after : Option (List ℕ))
      (answer : IsRunAnswer Report (IsAdvisedRun sat missed now) status t before after) where
    pub report_promised : IsPromisedOf (IsAdvisedRun sat missed now) status trace before after
    report_promised =
        answer_promised Report (IsAdvisedRun sat missed now) (WroteReport (IsAdvisedRun sat missed now)) status before after
        (wrote_report (IsAdvisedRun sat missed now) t sound (λ past advised. planned_is_told (Heard sat missed now) t past advised.run) before after) answer

    -- whatever lists were given
    pub plan_promised : IsPromised status trace before after
    plan_promised = promise_weakens (IsAdvisedRun sat missed now) (IsPlannedRun AnyLists) (any_run sat missed now) status trace before after report_promised

-- ---- a run that is not told
untold : (t : Scenario) (past : List Block) (text : List ℕ) → AreTold block_cycles Untold t past text → text ≡ []
untold t [] text told = told
untold t (b ∷ past) text (front, (own, (e, (told, is)))) = e ∙ ap (λ l. l ++ own) (untold t past front told) ∙ is

module _ (IsSuch : Scenario → List Block → Type 0) (t : Scenario) (before after : Option (List ℕ)) where
  stopped_untold : (past : List Block) (run : IsSuch t past) (front text : List ℕ) (part : ℕ) → front ≡ [] → part < length text → after ≡ append_known before (front ++ take part text) →
      NextText block_cycles Untold IsSuch t past text → StoppedInSummary IsSuch t before after
  stopped_untold past run front text part none proper written (cycle b _ follows told) = absurd (omega (arith, proper, ap length told))
  stopped_untold past run front _ part none proper written (summary whole) = record {
    summary = summary_of t past;
    of_run = record { past = past; run = run; whole = whole; counted = refl };
    written = (part, proper, written ∙ ap (λ l. append_known before (l ++ take part (summary_text (summary_of t past)))) none);
  }

  -- of which the summary is all that is written
  load_answered : (status : Status) → IsRunAnswer Untold IsSuch status t before after → IsLoadAnswer IsSuch status t before after
  load_answered Done answer = record {
    summary = summary_of t answer.past;
    of_run = record { past = answer.past; run = answer.told.run; whole = answer.whole; counted = refl };
    written = answer.written ∙ ap (λ l. append_known before (l ++ summary_text (summary_of t answer.past))) (untold t answer.past answer.text answer.told.told);
  }
  load_answered (Refused line why) answer = answer
  load_answered Usage answer = answer
  load_answered ReadFault answer = answer
  load_answered WriteFault answer =
      stopped_untold answer.past answer.told.run answer.front answer.text answer.part (untold t answer.past answer.front answer.told.told) answer.proper answer.written answer.next
  load_answered (BadTrace line why) answer = answer
  load_answered NoMemory answer = answer.written ∙ ap (append_known before) (untold t answer.past answer.front answer.told.told) ∙ append_known-nil before

  pub load_of : (status : Status) (s : Scenario) → t ≡ s → IsRunAnswer Untold IsSuch status t before after → IsLoadAnswer IsSuch status s before after
  load_of status s is answer = subst (λ (u : Scenario). IsLoadAnswer IsSuch status u before after) is (load_answered status answer)

-- ---- a run whose plans a chooser chose
chosen_cycles : {Planner : Type 0} (first now : Planner) (t : Scenario) (past : List Block) → ArePlanned by_chooser first now t past → IsChosenRun t past
chosen_cycles first now t [] planned = tt
chosen_cycles first now t (b ∷ past) (before, (step, rest)) = (step.in_run, step.planned, chosen_cycles first before t past rest)

pub chosen_run : {Planner : Type 0} (first now : Planner) (t : Scenario) (past : List Block) → IsRunBy by_chooser first now t past → IsChosenRun t past
chosen_run first now t past ran = chosen_cycles first ran.last t past ran.planned

-- its report, of a trace that was read
pub chosen_promised : (trace : Result Scenario (ℕ × TraceWhy)) (t : Scenario) → trace ≡ Ok t → IsSound t → (status : Status) (before after : Option (List ℕ)) →
    IsRunAnswer Report IsChosenRun status t before after → IsPromisedOf IsChosenRun status trace before after
chosen_promised trace t is sound status before after answer =
    answer_promised trace t is Report IsChosenRun (WroteReport IsChosenRun) status before after
    (wrote_report IsChosenRun t sound (λ past run. run) before after) answer

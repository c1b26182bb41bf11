-- How a check ends, by what stopped it.
use Rattle.std.proofs.Common.{◌≡◌, ◌⊎◌, ◌∙◌, ⊎_elim, ℕ, List, ap, refl, sym, subst, inl, inr}
use Rattle.std.specs.Io.KnownBytes.{append_known}
use Rattle.std.specs.Prelude.{Option, Result, Ok, Err}
use Rattle.tetri_cycles.specs.Observed.{Observed}
use Rattle.tetri_io.specs.Sink.{AppendsPart}
use Rattle.tetri_notice.specs.declared.fault.TraceFault.{TraceFault}
use Rattle.tetri_notice.specs.declared.fault.TraceFault.TheVariants as faults
use Rattle.tetri_notice.specs.declared.fault.TraceWhy.{TraceWhy}
use Rattle.tetri_report.specs.Block.{Block}
use Rattle.tetri_state.specs.Snapshot.{Snapshot, opening_state}
use Rattle.tetri_trace.specs.Answers.{Fails}
use Rattle.tetri_trace.specs.Scenario.{Scenario}
use Rattle.tetri_trace.specs.Sound.{IsSound}
use Rattle.tetri_run.specs.Check.{ComesTo, IsAccepted, IsAssured, lines_in, unchecked}
use Rattle.tetri_run.specs.CheckEnds.{HasSeen, IsHalt, IsHaltOf, status_of_halt}
use Rattle.tetri_run.specs.Checked.{AnswersReport}
use Rattle.tetri_run.specs.Run.{in_order}
use Rattle.tetri_run.specs.Status.{IsCheckPromised, IsRefusal, accepted_text, status_of}
use Rattle.tetri_run.specs.declared.halt.CheckHalt.{CheckHalt}
use Rattle.tetri_run.specs.declared.halt.CheckHalt.TheVariants as halts
use Rattle.tetri_run.specs.declared.status.Status.{Status}
use Rattle.tetri_run.specs.declared.status.Status.TheVariants.{Done, Refused, Usage, ReadFault, WriteFault, BadTrace, NoMemory}
use Rattle.tetri_run.specs.declared.why.Why.{Why}
use Rattle.tetri_run.proofs.CheckLemmas.{accepted_not_refused, comes_to_accepted, ok_not_err, run_bounds}

-- The trace was not read.

pub fault_is_halt : (f : TraceFault) → IsHalt (status_of f)
fault_is_halt faults.Read = tt
fault_is_halt (faults.Bad line why) = tt
fault_is_halt faults.NoMemory = tt

pub fault_read : (f : TraceFault) → status_of f ≡ ReadFault → f ≡ faults.Read
fault_read faults.Read e = refl
fault_read (faults.Bad line why) e = absurd cc
fault_read faults.NoMemory e = absurd cc

module _ (reading : Result Scenario (ℕ × TraceWhy)) where
  pub fault_halted : (f : TraceFault) (report : List ℕ) → Fails f reading → IsHaltOf (status_of f) reading report
  fault_halted faults.Read report fails = tt
  fault_halted (faults.Bad line why) report fails = fails
  fault_halted faults.NoMemory report fails = tt

  pub fault_bad : (f : TraceFault) (line : ℕ) (why : TraceWhy) → Fails f reading → status_of f ≡ BadTrace line why → reading ≡ Err (line, why)
  fault_bad faults.Read line why fails e = absurd cc
  fault_bad (faults.Bad number cause) line why fails e = cc
  fault_bad faults.NoMemory line why fails e = absurd cc

  -- but for a fault of reading, a trace that may be read is not read only where memory ran out
  pub fault_memory : (f : TraceFault) (t : Scenario) → Fails f reading → reading ≡ Ok t → (f ≡ faults.Read → ⊥) → status_of f ≡ NoMemory
  fault_memory faults.Read t fails is quiet = absurd (quiet refl)
  fault_memory (faults.Bad line why) t fails is quiet = absurd (ok_not_err (sym is ∙ fails))
  fault_memory faults.NoMemory t fails is quiet = refl

  pub fault_refuses : (f : TraceFault) (line : ℕ) (why : TraceWhy) → Fails f reading → reading ≡ Err (line, why) → (f ≡ faults.Read → ⊥) →
      (status_of f ≡ BadTrace line why) ⊎ (status_of f ≡ NoMemory)
  fault_refuses faults.Read line why fails is quiet = absurd (quiet refl)
  fault_refuses (faults.Bad number cause) line why fails is quiet = inl (ap (λ (p : ℕ × TraceWhy). BadTrace p.0 p.1) (err_same (sym fails ∙ is)))
    where
      err_same : {x y : ℕ × TraceWhy} → ◌≡◌ {A = Result Scenario (ℕ × TraceWhy)} (Err x) (Err y) → x ≡ y
      err_same e = cc
  fault_refuses faults.NoMemory line why fails is quiet = inr refl

-- The check of the report came to no end.

pub halt_is_halt : (h : CheckHalt) → IsHalt (status_of_halt h)
halt_is_halt (halts.Refused line why) = tt
halt_is_halt halts.ReadFault = tt
halt_is_halt halts.NoMemory = tt

pub halt_not_bad : (h : CheckHalt) (line : ℕ) (why : TraceWhy) → status_of_halt h ≡ BadTrace line why → ⊥
halt_not_bad (halts.Refused number cause) line why e = absurd cc
halt_not_bad halts.ReadFault line why e = absurd cc
halt_not_bad halts.NoMemory line why e = absurd cc

pub halt_read : (h : CheckHalt) → status_of_halt h ≡ ReadFault → h ≡ halts.ReadFault
halt_read (halts.Refused line why) e = absurd cc
halt_read halts.ReadFault e = refl
halt_read halts.NoMemory e = absurd cc

module _ (t : Scenario) (sound : IsSound t) (report : List ℕ) where
  module _ (Saw : List Block → Type 0) where
    pub halt_halted : (h : CheckHalt) (reading : Result Scenario (ℕ × TraceWhy)) → AnswersReport {U = Unit {0}} (Err h) (ComesTo t unchecked (lines_in report)) Saw → reading ≡ Ok t →
        IsHaltOf (status_of_halt h) reading report
    halt_halted (halts.Refused line why) reading comes is = (t, is, comes, λ accepted. accepted_not_refused t sound report accepted line why comes)
    halt_halted halts.ReadFault reading comes is = tt
    halt_halted halts.NoMemory reading comes is = tt

    -- but for a fault of reading, an accepted report is not told to be so only where memory ran out
    pub halt_memory : (h : CheckHalt) → AnswersReport {U = Unit {0}} (Err h) (ComesTo t unchecked (lines_in report)) Saw → IsAccepted t report → (h ≡ halts.ReadFault → ⊥) →
        status_of_halt h ≡ NoMemory
    halt_memory (halts.Refused line why) comes accepted quiet = absurd (accepted_not_refused t sound report accepted line why comes)
    halt_memory halts.ReadFault comes accepted quiet = absurd (quiet refl)
    halt_memory halts.NoMemory comes accepted quiet = refl

    -- and any other is refused
    pub halt_rejects : (h : CheckHalt) → AnswersReport {U = Unit {0}} (Err h) (ComesTo t unchecked (lines_in report)) Saw → (h ≡ halts.ReadFault → ⊥) →
        IsRefusal (status_of_halt h) t report ⊎ (status_of_halt h ≡ NoMemory)
    halt_rejects (halts.Refused line why) comes quiet = inl comes
    halt_rejects halts.ReadFault comes quiet = absurd (quiet refl)
    halt_rejects halts.NoMemory comes quiet = inr refl

  -- It came to its end, and an observer saw the cycles.
  module _ {O : Type 0} (saw : Scenario → Snapshot → Block → O → O → Type 0) (old new : O) where
    pub seen_of : (past : List Block) → ComesTo t unchecked (lines_in report) (Ok past) → Observed saw t (opening_state t) (in_order past) old new → HasSeen saw t report old new
    seen_of past comes observed =
        let accepted = comes_to_accepted t sound report past comes in
        record {
          assured = record { accepted = accepted.0; bounds = run_bounds t sound accepted.0.past accepted.0.run };
          observed = subst (λ p. Observed saw t (opening_state t) (in_order p) old new) (sym accepted.1) observed;
        }

-- what such a status says of a check whatever is written
pub halt_promised : (status : Status) (trace : Result Scenario (ℕ × TraceWhy)) (report : List ℕ) (before after : Option (List ℕ)) → IsHaltOf status trace report →
    IsCheckPromised status trace report before after
halt_promised Done trace report before after halted = absurd halted
halt_promised (Refused line why) trace report before after halted = (halted.0, halted.1, (halted.2, halted.3))
halt_promised Usage trace report before after halted = tt
halt_promised ReadFault trace report before after halted = tt
halt_promised WriteFault trace report before after halted = absurd halted
halt_promised (BadTrace line why) trace report before after halted = halted
halt_promised NoMemory trace report before after halted = tt

-- what is said of an accepted report once it was told to be so
pub told_promised : (trace : Result Scenario (ℕ × TraceWhy)) (t : Scenario) (report : List ℕ) → trace ≡ Ok t → IsAssured t report → (status : Status) (before after : Option (List ℕ)) →
    (status ≡ Done → after ≡ append_known before (accepted_text t.header.until)) → (status ≡ WriteFault → AppendsPart before after (accepted_text t.header.until)) →
    (status ≡ Done) ⊎ ((status ≡ WriteFault) ⊎ (status ≡ NoMemory)) → IsCheckPromised status trace report before after
told_promised trace t report is holds Done before after done failed ends = (t, is, (holds, done refl))
told_promised trace t report is holds (Refused line why) before after done failed ends = absurd (⊎_elim (λ e. absurd cc) (λ more. ⊎_elim (λ e. absurd cc) (λ e. absurd cc) more) ends)
told_promised trace t report is holds Usage before after done failed ends = tt
told_promised trace t report is holds ReadFault before after done failed ends = tt
told_promised trace t report is holds WriteFault before after done failed ends = (t, is, (holds, failed refl))
told_promised trace t report is holds (BadTrace line why) before after done failed ends = absurd (⊎_elim (λ e. absurd cc) (λ more. ⊎_elim (λ e. absurd cc) (λ e. absurd cc) more) ends)
told_promised trace t report is holds NoMemory before after done failed ends = tt

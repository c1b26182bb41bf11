-- What a call says of what was asked.
use Rattle.std.specs.Prelude.{◌≡◌, ◌⊎◌, ℕ, List, Option, Some, Result, Ok, Err}
use Rattle.tetri_make.specs.Generated.{generated}
use Rattle.tetri_notice.specs.declared.fault.TraceWhy.{TraceWhy}
use Rattle.tetri_report.specs.Block.{Block}
use Rattle.tetri_trace.specs.Lines.{scenario_in}
use Rattle.tetri_trace.specs.Scenario.{Scenario}
use Rattle.tetri_run.specs.Admitting.{IsAdmitPromised}
use Rattle.tetri_run.specs.ByParts.{IsPartsPromised}
use Rattle.tetri_run.specs.Check.{IsAccepted}
use Rattle.tetri_run.specs.Status.{IsCheckPromised, IsLoadAnswer, IsPromisedOf, IsRefusal, IsTightPromised}
use Rattle.tetri_run.specs.Words.{Asked, to_admit, to_check, to_load, to_parts, to_plan, to_tight}
use Rattle.tetri_run.specs.declared.status.Status.{Status}
use Rattle.tetri_run.specs.declared.status.Status.TheVariants.{Done, WriteFault, BadTrace, NoMemory}

-- a panel is asked
abbrev pub AsksPanel : Asked → Type 0
AsksPanel (to_plan trace) = Unit {0}
AsksPanel (to_check trace report) = ⊥
AsksPanel (to_load number) = Unit {0}
AsksPanel (to_parts trace) = ⊥
AsksPanel (to_tight trace) = Unit {0}
AsksPanel (to_admit trace) = ⊥

-- a report may be refused
abbrev pub MayRefuse : Asked → Type 0
MayRefuse (to_plan trace) = ⊥
MayRefuse (to_check trace report) = Unit {0}
MayRefuse (to_load number) = ⊥
MayRefuse (to_parts trace) = ⊥
MayRefuse (to_tight trace) = ⊥
MayRefuse (to_admit trace) = ⊥

-- all was done, or memory ran out
abbrev pub EndsWell : Status → Type 0
EndsWell status = (status ≡ Done) ⊎ (status ≡ NoMemory)

-- Names tell these bytes.
module _ (told : List ℕ → Option (List ℕ)) where
  -- this is said of what the trace of a name is read as
  abbrev pub IsSaidOf : List ℕ → (Result Scenario (ℕ × TraceWhy) → Type 0) → Type 0
  IsSaidOf name Says = (content : List ℕ) → told name ≡ Some content → Says (scenario_in content)

  -- What a status says of checking the report of one name against the trace of another: what was
  -- found, and where the report was neither accepted nor a write failed, nothing is written. A
  -- trace is said to be bad only where it is, whatever the report.
  pub record IsCheckOf (trace report : List ℕ) (status : Status)
      (before after : Option (List ℕ)) : Type 0 where
    pub found : (content lines : List ℕ) → told trace ≡ Some content → told report ≡ Some lines
        → IsCheckPromised status (scenario_in content) lines before after
    pub silent : (status ≡ Done → ⊥) → (status ≡ WriteFault → ⊥) → after ≡ before
    pub bad_trace : (content : List ℕ) (line : ℕ) (why : TraceWhy) → told trace ≡ Some content
        → status ≡ BadTrace line why → scenario_in content ≡ Err (line, why)

  -- What a status says of what was asked, and of the written bytes before and after: by such a run,
  -- where a panel is asked.
  module _ (IsSuch : Scenario → List Block
      → Type 0) (status : Status) (before after : Option (List ℕ)) where
    abbrev pub IsAnswerTo : Asked → Type 0
    IsAnswerTo (to_plan trace) = IsSaidOf trace (λ t. IsPromisedOf IsSuch status t before after)
    IsAnswerTo (to_check trace report) = IsCheckOf trace report status before after
    IsAnswerTo (to_load number) = IsLoadAnswer IsSuch status (generated number) before after
    IsAnswerTo (to_parts trace) = IsSaidOf trace (λ t. IsPartsPromised status t before after)
    IsAnswerTo (to_tight trace) = IsSaidOf trace (λ t. IsTightPromised IsSuch status t before after)
    IsAnswerTo (to_admit trace) = IsSaidOf trace (λ t. IsAdmitPromised status t before after)

  -- Where no read and no write failed, a trace that is accepted is worked on to the end.
  abbrev pub IsWorkedOn : Type 0 → Status → List ℕ → Type 0
  IsWorkedOn Quiet status trace = (content : List ℕ) (t : Scenario) → told trace ≡ Some content
      → scenario_in content ≡ Ok t → Quiet → EndsWell status

  -- Where no read failed, a report that is accepted is told so where no write failed, and one that
  -- is not accepted is refused.
  pub record IsDecided (Quiet : Type 0) (status : Status) (trace report : List ℕ) : Type 0 where
    pub accepts : (content lines : List ℕ) (t : Scenario) → told trace ≡ Some content
        → scenario_in content ≡ Ok t → told report ≡ Some lines → IsAccepted t lines → Quiet
        → EndsWell status
    pub rejects : (content lines : List ℕ) (t : Scenario) → told trace ≡ Some content
        → scenario_in content ≡ Ok t → told report ≡ Some lines → (IsAccepted t lines → ⊥)
        → IsRefusal status t lines ⊎ (status ≡ NoMemory)

  -- How a call ends where no read failed; `Quiet` says that no write failed.
  abbrev pub IsComplete : Type 0 → Status → Asked → Type 0
  IsComplete Quiet status (to_plan trace) = IsWorkedOn Quiet status trace
  IsComplete Quiet status (to_check trace report) = IsDecided Quiet status trace report
  IsComplete Quiet status (to_load number) = Quiet → EndsWell status
  IsComplete Quiet status (to_parts trace) = IsWorkedOn Quiet status trace
  IsComplete Quiet status (to_tight trace) = IsWorkedOn Quiet status trace
  IsComplete Quiet status (to_admit trace) = IsWorkedOn Quiet status trace

-- How the check of a report ends.
use Rattle.std.specs.Prelude.{◌≡◌, ◌⊎◌, ℕ, List, Option, Some, Result, Ok, Err}
use Rattle.tetri_algebra.specs.Counts.{Rose}
use Rattle.tetri_cycles.specs.Observed.{Observed}
use Rattle.tetri_notice.specs.declared.fault.TraceWhy.{TraceWhy}
use Rattle.tetri_report.specs.Block.{Block}
use Rattle.tetri_state.specs.Snapshot.{Snapshot, opening_state}
use Rattle.tetri_trace.specs.Lines.{scenario_in}
use Rattle.tetri_trace.specs.Scenario.{Scenario}
use Rattle.tetri_run.specs.Check.{IsAccepted, IsAssured, IsRefusedAt}
use Rattle.tetri_run.specs.Run.{in_order}
use Rattle.tetri_run.specs.Status.{IsRefusal, RoseOf}
use Rattle.tetri_run.specs.Words.{to_check}
use Rattle.tetri_run.specs.declared.halt.CheckHalt.{CheckHalt}
use Rattle.tetri_run.specs.declared.halt.CheckHalt.TheVariants as halts
use Rattle.tetri_run.specs.declared.status.Status.{Status}
use Rattle.tetri_run.specs.declared.status.Status.TheVariants.{Done, Refused, Usage, ReadFault, WriteFault, BadTrace, NoMemory}

-- The report is accepted, no lawful allotment is worth more than the bound of a cycle, and its
-- cycles were shown to an observer, in their order: as it stood before them, and as it stands
-- behind them.
pub record HasSeen {O : Type 0} (saw : Scenario → Snapshot → Block → O → O
    → Type 0) (t : Scenario) (report : List ℕ) (old new : O) : Type 0 where
  pub assured : IsAssured t report
  pub observed : Observed saw t (opening_state t) (in_order assured.accepted.past) old new

-- the status of a check that stops before its end
abbrev pub status_of_halt : CheckHalt → Status
status_of_halt (halts.Refused line why) = Refused line why
status_of_halt halts.ReadFault = ReadFault
status_of_halt halts.NoMemory = NoMemory

-- the status with which a check ends, which gives something where it accepts the report
abbrev pub ended_as : {T : Type 0} → Result T Status → Status
ended_as (Ok given) = Done
ended_as (Err status) = status

-- What a check says that accepts no report, of the trace that was read and the report.
abbrev pub IsHaltOf : Status → Result Scenario (ℕ × TraceWhy) → List ℕ → Type 0
IsHaltOf Done trace report = ⊥
IsHaltOf (Refused line why) trace report = (t : Scenario) × (trace ≡ Ok t)
    × IsRefusedAt t report line why × (IsAccepted t report → ⊥)
IsHaltOf Usage trace report = ⊥
IsHaltOf ReadFault trace report = Unit {0}
IsHaltOf WriteFault trace report = ⊥
IsHaltOf (BadTrace line why) trace report = trace ≡ Err (line, why)
IsHaltOf NoMemory trace report = Unit {0}

-- a check that accepts no report may end with this status
abbrev pub IsHalt : Status → Type 0
IsHalt Done = ⊥
IsHalt (Refused line why) = Unit {0}
IsHalt Usage = ⊥
IsHalt ReadFault = Unit {0}
IsHalt WriteFault = ⊥
IsHalt (BadTrace line why) = Unit {0}
IsHalt NoMemory = Unit {0}

-- What the status with which a check ends says, where names tell these bytes, so many reads of each
-- name had failed before it and so many behind it, and these are the names of the trace and the
-- report.
module _ (told : List ℕ → Option (List ℕ)) (before after : List ℕ
    → ℕ) (trace report : List ℕ) (status : Status) where
  -- the trace is said to be bad only where it is, whatever the report
  abbrev pub TellsBadTrace : Type 0
  TellsBadTrace = (content : List ℕ) (line : ℕ) (why : TraceWhy) → told trace ≡ Some content
      → status ≡ BadTrace line why → scenario_in content ≡ Err (line, why)

  -- a fault of reading comes only where it was counted
  abbrev pub TellsReadFault : Type 0
  TellsReadFault = status ≡ ReadFault → RoseOf (to_check trace report) before after

  -- Where no read failed and this is so besides, an accepted report is told to be so, but for want
  -- of memory.
  abbrev pub Accepts : Type 0 → Type 0
  Accepts Besides =
      (content lines : List ℕ) (t : Scenario) → told trace ≡ Some content
      → scenario_in content ≡ Ok t → told report ≡ Some lines → IsAccepted t lines
      → (RoseOf (to_check trace report) before after → ⊥) → Besides
      → (status ≡ Done) ⊎ (status ≡ NoMemory)

  -- where no read failed, a report that is not accepted is refused
  abbrev pub Rejects : Type 0
  Rejects =
      (content lines : List ℕ) (t : Scenario) → told trace ≡ Some content
      → scenario_in content ≡ Ok t → told report ≡ Some lines → (IsAccepted t lines → ⊥)
      → (RoseOf (to_check trace report) before after → ⊥)
      → IsRefusal status t lines ⊎ (status ≡ NoMemory)

  -- and so is a trace that is bad
  abbrev pub Refuses : Type 0
  Refuses =
      (content : List ℕ) (line : ℕ) (why : TraceWhy) → told trace ≡ Some content
      → scenario_in content ≡ Err (line, why) → (Rose (before trace) (after trace) → ⊥)
      → (status ≡ BadTrace line why) ⊎ (status ≡ NoMemory)

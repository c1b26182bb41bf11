-- What a status says of the pictures of two reports of one trace.
use Rattle.std.specs.Prelude.{◌≡◌, ℕ, List, Option, Result, Ok}
use Rattle.tetri_chart.specs.Charted.{IsTextDrawn, TellsRun, picture_in}
use Rattle.tetri_chart.specs.Pair.{pair_text}
use Rattle.tetri_chart.specs.Slots.{HasSlots}
use Rattle.tetri_chart.specs.declared.pair_status.PairStatus.{PairStatus}
use Rattle.tetri_chart.specs.declared.pair_status.PairStatus.TheVariants.{First, Second, Both}
use Rattle.tetri_chart.specs.declared.view.View.{View}
use Rattle.tetri_notice.specs.declared.fault.TraceWhy.{TraceWhy}
use Rattle.tetri_run.specs.Check.{IsAccepted}
use Rattle.tetri_run.specs.CheckEnds.{IsHaltOf}
use Rattle.tetri_run.specs.Status.{IsRefusal}
use Rattle.tetri_run.specs.declared.status.Status.{Status}
use Rattle.tetri_run.specs.declared.status.Status.TheVariants.{Done}
use Rattle.tetri_trace.specs.Scenario.{Scenario}

-- the status with which the call ended
abbrev pub status_in : PairStatus → Status
status_in (First status) = status
status_in (Second status) = status
status_in (Both status) = status

-- the status with which the check of the first report ended
abbrev pub first_status : PairStatus → Status
first_status (First status) = status
first_status (Second status) = Done
first_status (Both status) = Done

-- the second report is refused, for the first test that it fails, at its line
abbrev pub IsSecondRefusal : PairStatus → Scenario → List ℕ → Type 0
IsSecondRefusal (First status) t report = ⊥
IsSecondRefusal (Second status) t report = IsRefusal status t report
IsSecondRefusal (Both status) t report = ⊥

-- Both reports are accepted, and drawing their pictures, which tell the pieces of their runs, ends so.
abbrev pub ArePairDrawn : Option ℕ → View → Status → Scenario → List ℕ → List ℕ → Option (List ℕ) → Option (List ℕ) → Type 0
ArePairDrawn cycle v status t first second before after =
    (a : IsAccepted t first) × (b : IsAccepted t second) × TellsRun t first cycle a × TellsRun t second cycle b
    × IsTextDrawn (HasSlots t cycle v) (pair_text t v (picture_in t first cycle a) (picture_in t second cycle b)) status before after

-- What drawing two reports answers of the trace that was read, of the written bytes before and after: which check accepted no report and
-- why, or that both are accepted and how drawing them ended.
abbrev pub IsPairPromised : Option ℕ → View → PairStatus → Result Scenario (ℕ × TraceWhy) → List ℕ → List ℕ → Option (List ℕ) → Option (List ℕ) → Type 0
IsPairPromised cycle v (First status) trace first second before after = IsHaltOf status trace first × (after ≡ before)
IsPairPromised cycle v (Second status) trace first second before after =
    (t : Scenario) × (trace ≡ Ok t) × IsAccepted t first × IsHaltOf status trace second × (after ≡ before)
IsPairPromised cycle v (Both status) trace first second before after = (t : Scenario) × (trace ≡ Ok t) × ArePairDrawn cycle v status t first second before after

-- What a status says of the picture of a report.
use Rattle.std.specs.Prelude.{◌≡◌, ◌⊎◌, ℕ, List, Option, Result, Ok, Err}
use Rattle.std.specs.Io.KnownBytes.{append_known}
use Rattle.tetri_chart.specs.Picture.{Picture, picture_of}
use Rattle.tetri_chart.specs.RunSpans.{TellsPieces}
use Rattle.tetri_chart.specs.Slots.{HasSlots}
use Rattle.tetri_chart.specs.Svg.{AppendsFront, svg_text}
use Rattle.tetri_chart.specs.declared.view.View.{View}
use Rattle.tetri_io.specs.Sink.{AppendsPart}
use Rattle.tetri_notice.specs.declared.fault.TraceWhy.{TraceWhy}
use Rattle.tetri_run.specs.Check.{IsAccepted, IsRefusedAt}
use Rattle.tetri_run.specs.Run.{in_order}
use Rattle.tetri_run.specs.declared.status.Status.{Status}
use Rattle.tetri_run.specs.declared.status.Status.TheVariants.{Done, Refused, Usage, ReadFault, WriteFault, BadTrace, NoMemory}
use Rattle.tetri_trace.specs.Scenario.{Scenario}

-- What drawing this text ends with, where a run has the slots that are asked for exactly if this holds, of the written bytes before and after.
abbrev pub IsTextDrawn : Type 0 → List ℕ → Status → Option (List ℕ) → Option (List ℕ) → Type 0
IsTextDrawn Has text Done before after = Has × (after ≡ append_known before text)
IsTextDrawn Has text (Refused line why) before after = ⊥
IsTextDrawn Has text Usage before after = (Has → ⊥) × (after ≡ before)
IsTextDrawn Has text ReadFault before after = ⊥
IsTextDrawn Has text WriteFault before after = Has × AppendsPart before after text
IsTextDrawn Has text (BadTrace line why) before after = ⊥
IsTextDrawn Has text NoMemory before after = (after ≡ before) ⊎ (Has × AppendsFront before after text)

-- the same of a picture of a run of the trace
abbrev pub IsDrawn : Scenario → View → Picture → Status → Option (List ℕ) → Option (List ℕ) → Type 0
IsDrawn t v p = IsTextDrawn (HasSlots t p.asked v) (svg_text t v p)

-- The picture of the run of an accepted report, with the waiting grants of this cycle, if one is named.
abbrev pub picture_in : (t : Scenario) (report : List ℕ) → Option ℕ → IsAccepted t report → Picture
picture_in t report cycle accepted = picture_of t cycle (in_order accepted.past)

-- The pieces of that picture are those of the run: one for each piece that a cycle launches, and no other.
abbrev pub TellsRun : (t : Scenario) (report : List ℕ) → Option ℕ → IsAccepted t report → Type 0
TellsRun t report cycle accepted = TellsPieces t (in_order accepted.past) (picture_in t report cycle accepted).spans

-- The report is accepted, and drawing its picture, which tells the pieces of its run, ends so.
abbrev pub IsDrawnOf : Option ℕ → View → Status → Scenario → List ℕ → Option (List ℕ) → Option (List ℕ) → Type 0
IsDrawnOf cycle v status t report before after =
    (a : IsAccepted t report) × (TellsRun t report cycle a × IsDrawn t v (picture_in t report cycle a) status before after)

-- What drawing a report that is checked against a trace answers, of the written bytes before and after.
abbrev pub IsChartAnswer : Option ℕ → View → Status → Scenario → List ℕ → Option (List ℕ) → Option (List ℕ) → Type 0
IsChartAnswer cycle v Done t report before after = IsDrawnOf cycle v Done t report before after
IsChartAnswer cycle v (Refused line why) t report before after = IsRefusedAt t report line why × ((IsAccepted t report → ⊥) × (after ≡ before))
IsChartAnswer cycle v Usage t report before after = IsDrawnOf cycle v Usage t report before after
IsChartAnswer cycle v ReadFault t report before after = after ≡ before
IsChartAnswer cycle v WriteFault t report before after = IsDrawnOf cycle v WriteFault t report before after
IsChartAnswer cycle v (BadTrace line why) t report before after = ⊥
IsChartAnswer cycle v NoMemory t report before after = (after ≡ before) ⊎ IsDrawnOf cycle v NoMemory t report before after

-- the same of the trace that was read, which may be refused
abbrev pub IsChartPromised : Option ℕ → View → Status → Result Scenario (ℕ × TraceWhy) → List ℕ → Option (List ℕ) → Option (List ℕ) → Type 0
IsChartPromised cycle v (BadTrace line why) trace report before after = (trace ≡ Err (line, why)) × (after ≡ before)
IsChartPromised cycle v ReadFault trace report before after = after ≡ before
IsChartPromised cycle v NoMemory trace report before after = (after ≡ before) ⊎ ((t : Scenario) × ((trace ≡ Ok t) × IsChartAnswer cycle v NoMemory t report before after))
IsChartPromised cycle v status trace report before after = (t : Scenario) × ((trace ≡ Ok t) × IsChartAnswer cycle v status t report before after)

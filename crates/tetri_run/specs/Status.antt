-- What a status says, of the trace and of the bytes that were written.
use Rattle.std.specs.Prelude.{◌≡◌, ◌⊎◌, ℕ, List, [], ◌++◌, Option, Some, None, Result, Ok, Err, codes, decimal}
use Rattle.std.specs.Io.KnownBytes.{append_known}
use Rattle.tetri_trace.specs.Scenario.{Scenario}
use Rattle.tetri_notice.specs.Words.{why_words}
use Rattle.tetri_notice.specs.declared.fault.TraceWhy.{TraceWhy}
use Rattle.tetri_algebra.specs.Counts.{Rose}
use Rattle.tetri_cert.specs.Words.{tree_words}
use Rattle.tetri_io.specs.Sink.{AppendsPart}
use Rattle.tetri_report.specs.Block.{Block}
use Rattle.tetri_space.specs.Words.{unlawful_words}
use Rattle.tetri_notice.specs.declared.fault.TraceFault.{TraceFault}
use Rattle.tetri_notice.specs.declared.fault.TraceFault.TheVariants as trace_faults
use Rattle.tetri_run.specs.Check.{IsAccepted, IsAssured, IsRefusedAt}
use Rattle.tetri_cycles.specs.Told.{StoppedBetween, StoppedInText, WroteRun}
use Rattle.tetri_run.specs.Progress.{StoppedInSummary, WroteReport, WroteSummary}
use Rattle.tetri_run.specs.Telling.{block_cycles}
use Rattle.tetri_run.specs.Promised.{IsPromisedBy}
use Rattle.tetri_run.specs.Run.{AnyLists, IsPlannedRun}
use Rattle.tetri_run.specs.Words.{Asked, to_admit, to_check, to_load, to_parts, to_plan, to_tight}
use Rattle.tetri_judge.specs.declared.verdict.Verdict.{Verdict}
use Rattle.tetri_judge.specs.declared.verdict.Verdict.TheVariants as verdicts
use Rattle.tetri_run.specs.declared.why.Why.{Why}
use Rattle.tetri_run.specs.declared.why.Why.TheVariants as refusals
use Rattle.tetri_run.specs.declared.status.Status.{Status}
use Rattle.tetri_run.specs.declared.telling.Telling.{Telling}
use Rattle.tetri_run.specs.declared.telling.Telling.TheVariants.{Report, Tight}
use Rattle.tetri_run.specs.declared.status.Status.TheVariants.{Done, Refused, Usage, ReadFault, WriteFault, BadTrace, NoMemory}

-- What a status says of planning the trace that was read by such a run, whose report is written.
abbrev pub IsPromisedOf : (Scenario → List Block → Type 0) → Status → Result Scenario (ℕ × TraceWhy)
    → Option (List ℕ) → Option (List ℕ) → Type 0
IsPromisedOf IsSuch = IsPromisedBy (WroteReport IsSuch) (StoppedInText block_cycles Report IsSuch)
    (StoppedBetween block_cycles Report IsSuch)

-- What a status says of planning the trace that was read by such a run, of which is written what
-- cuts make of the bound of each cycle: the value of a cycle is attained by a lawful allotment, and
-- no lawful allotment is worth more than the tightened bound.
abbrev pub IsTightPromised : (Scenario → List Block → Type 0) → Status
    → Result Scenario (ℕ × TraceWhy) → Option (List ℕ) → Option (List ℕ) → Type 0
IsTightPromised IsSuch = IsPromisedBy (WroteRun block_cycles Tight IsSuch)
    (StoppedInText block_cycles Tight IsSuch) (StoppedBetween block_cycles Tight IsSuch)

-- What such a run of a trace that is told so answers, of the written bytes before and after.
abbrev pub IsRunAnswer : Telling → (Scenario → List Block → Type 0) → Status → Scenario
    → Option (List ℕ) → Option (List ℕ) → Type 0
IsRunAnswer telling IsSuch Done t before after = WroteRun block_cycles telling IsSuch t before after
IsRunAnswer telling IsSuch (Refused line why) t before after = ⊥
IsRunAnswer telling IsSuch Usage t before after = ⊥
IsRunAnswer telling IsSuch ReadFault t before after = ⊥
IsRunAnswer telling IsSuch WriteFault t before after = StoppedInText block_cycles telling IsSuch t
    before after
IsRunAnswer telling IsSuch (BadTrace line why) t before after = ⊥
IsRunAnswer telling IsSuch NoMemory t before after = StoppedBetween block_cycles telling IsSuch t
    before after

-- The same of any run that this planner plans, whatever lists were given in its cycles.
abbrev pub IsPromised : Status → Result Scenario (ℕ × TraceWhy) → Option (List ℕ) → Option (List ℕ)
    → Type 0
IsPromised = IsPromisedOf (IsPlannedRun AnyLists)

-- what is written of an accepted report
unfoldable pub accepted_text : ℕ → List ℕ
accepted_text cycles = codes "accepted " ++ decimal cycles ++ codes "\n"

-- What checking a report against a trace answers, of the written bytes before and after.
abbrev pub IsCheckAnswer : Status → Scenario → List ℕ → Option (List ℕ) → Option (List ℕ) → Type 0
IsCheckAnswer Done t report before after = IsAssured t report
    × (after ≡ append_known before (accepted_text t.header.until))
IsCheckAnswer (Refused line why) t report before after = IsRefusedAt t report line why
    × (IsAccepted t report → ⊥)
IsCheckAnswer Usage t report before after = ⊥
IsCheckAnswer ReadFault t report before after = Unit {0}
IsCheckAnswer WriteFault t report before after = IsAssured t report
    × AppendsPart before after (accepted_text t.header.until)
IsCheckAnswer (BadTrace line why) t report before after = ⊥
IsCheckAnswer NoMemory t report before after = Unit {0}

-- the status tells the first test that the report fails, at its line
abbrev pub IsRefusal : Status → Scenario → List ℕ → Type 0
IsRefusal (Refused line why) t report = IsRefusedAt t report line why
IsRefusal status t report = ⊥

-- What a status says of checking a report against the trace that was read: that this is refused, or
-- is accepted and the report was checked.
abbrev pub IsCheckPromised : Status → Result Scenario (ℕ × TraceWhy) → List ℕ → Option (List ℕ)
    → Option (List ℕ) → Type 0
IsCheckPromised (BadTrace line why) trace report before after = trace ≡ Err (line, why)
IsCheckPromised Usage trace report before after = Unit {0}
IsCheckPromised ReadFault trace report before after = Unit {0}
IsCheckPromised NoMemory trace report before after = Unit {0}
IsCheckPromised status trace report before after = (t : Scenario) × (trace ≡ Ok t)
    × IsCheckAnswer status t report before after

-- Where the words, the trace or the report are refused, or cannot be read, nothing is written.
abbrev pub IsSilent : Status → Option (List ℕ) → Option (List ℕ) → Type 0
IsSilent Done before after = Unit {0}
IsSilent (Refused line why) before after = after ≡ before
IsSilent Usage before after = after ≡ before
IsSilent ReadFault before after = after ≡ before
IsSilent WriteFault before after = Unit {0}
IsSilent (BadTrace line why) before after = after ≡ before
IsSilent NoMemory before after = Unit {0}

-- the status of a trace that is not read
abbrev pub status_of : TraceFault → Status
status_of trace_faults.Read = ReadFault
status_of (trace_faults.Bad line why) = BadTrace line why
status_of trace_faults.NoMemory = NoMemory

-- A fault was counted of a name that the words give.
abbrev pub RoseOf : Asked → (List ℕ → ℕ) → (List ℕ → ℕ) → Type 0
RoseOf (to_plan trace) before after = Rose (before trace) (after trace)
RoseOf (to_check trace report) before after = Rose (before trace) (after trace)
    ⊎ Rose (before report) (after report)
RoseOf (to_load number) before after = ⊥
RoseOf (to_parts trace) before after = Rose (before trace) (after trace)
RoseOf (to_tight trace) before after = Rose (before trace) (after trace)
RoseOf (to_admit trace) before after = Rose (before trace) (after trace)

-- the name of the trace that is read, if one is
abbrev pub trace_of : Asked → Option (List ℕ)
trace_of (to_plan trace) = Some trace
trace_of (to_check trace report) = Some trace
trace_of (to_load number) = None
trace_of (to_parts trace) = Some trace
trace_of (to_tight trace) = Some trace
trace_of (to_admit trace) = Some trace

-- What such a run of a trace answers, for its summary alone, of the written bytes before and after.
abbrev pub IsLoadAnswer : (Scenario → List Block → Type 0) → Status → Scenario → Option (List ℕ)
    → Option (List ℕ) → Type 0
IsLoadAnswer IsSuch Done t before after = WroteSummary IsSuch t before after
IsLoadAnswer IsSuch (Refused line why) t before after = ⊥
IsLoadAnswer IsSuch Usage t before after = ⊥
IsLoadAnswer IsSuch ReadFault t before after = ⊥
IsLoadAnswer IsSuch WriteFault t before after = StoppedInSummary IsSuch t before after
IsLoadAnswer IsSuch (BadTrace line why) t before after = ⊥
IsLoadAnswer IsSuch NoMemory t before after = after ≡ before

-- a line of a trace and what is wrong with it
unfoldable pub bad_trace_words : ℕ → TraceWhy → List ℕ
bad_trace_words line why = codes "bad trace: line " ++ decimal line ++ codes ": " ++ why_words why
    ++ codes "\n"

-- a value after a space
abbrev pub value : ℕ → List ℕ
value n = codes " " ++ decimal n

-- the name of a test that the plan of a cycle fails, and the values that show it; no refusal is for
-- want of memory
abbrev pub verdict_name : Verdict → List ℕ
verdict_name (verdicts.Unlawful u) = codes "unlawful"
verdict_name (verdicts.WrongValue printed found) = codes "wrong-value"
verdict_name (verdicts.WasteGrant place) = codes "waste-grant"
verdict_name (verdicts.BelowCarry printed carry) = codes "below-carry"
verdict_name (verdicts.BadTree node why) = codes "bad-tree"
verdict_name (verdicts.Past node column) = codes "past"
verdict_name (verdicts.WrongBound printed found) = codes "wrong-bound"
verdict_name verdicts.WrongMark = codes "wrong-mark"
verdict_name verdicts.NoMemory = codes "out-of-memory"

abbrev pub verdict_values : Verdict → List ℕ
verdict_values (verdicts.Unlawful u) = codes " " ++ unlawful_words u
verdict_values (verdicts.WrongValue printed found) = value printed ++ value found
verdict_values (verdicts.WasteGrant place) = value place
verdict_values (verdicts.BelowCarry printed carry) = value printed ++ value carry
verdict_values (verdicts.BadTree node why) = value node ++ codes " " ++ tree_words why
verdict_values (verdicts.Past node column) = value node ++ value column
verdict_values (verdicts.WrongBound printed found) = value printed ++ value found
verdict_values verdicts.WrongMark = []
verdict_values verdicts.NoMemory = []

-- the name of a test that a report fails, and the values that show it
abbrev pub refusal_name : Why → List ℕ
refusal_name refusals.Malformed = codes "malformed"
refusal_name refusals.LineTooLong = codes "line-too-long"
refusal_name (refusals.Plan v) = verdict_name v
refusal_name refusals.WrongEvents = codes "wrong-events"

abbrev pub refusal_values : Why → List ℕ
refusal_values refusals.Malformed = []
refusal_values refusals.LineTooLong = []
refusal_values (refusals.Plan v) = verdict_values v
refusal_values refusals.WrongEvents = []

unfoldable pub refused_words : ℕ → Why → List ℕ
refused_words line why = codes "refused: line " ++ decimal line ++ codes ": " ++ refusal_name why
    ++ refusal_values why ++ codes "\n"

-- the line that is said of a status, which is empty once all is done
abbrev pub status_words : Status → List ℕ
status_words Done = codes ""
status_words (Refused line why) = refused_words line why
status_words Usage = codes "usage: tetri plan TRACE | check TRACE REPORT | load N | parts TRACE | tight TRACE | admit TRACE\n"
status_words ReadFault = codes "read fault\n"
status_words WriteFault = codes "write fault\n"
status_words (BadTrace line why) = bad_trace_words line why
status_words NoMemory = codes "out of memory\n"

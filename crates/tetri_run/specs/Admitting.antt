-- What a status says of answering which jobs of a trace's first slot can be served together, and of
-- the bytes that were written.
use Rattle.std.specs.Prelude.{ℕ, List, Option, Result}
use Rattle.tetri_commands.specs.AnswersTold.{StoppedBetweenAnswers, StoppedInAnswersText, WroteAnswers}
use Rattle.tetri_trace.specs.Scenario.{Scenario}
use Rattle.tetri_notice.specs.declared.fault.TraceWhy.{TraceWhy}
use Rattle.tetri_run.specs.Promised.{IsPromisedBy}
use Rattle.tetri_run.specs.declared.status.Status.{Status}

-- What a status says of answering for the jobs of the first slot of the trace that was read, and of
-- the written bytes before and after.
abbrev pub IsAdmitPromised : Status → Result Scenario (ℕ × TraceWhy) → Option (List ℕ)
    → Option (List ℕ) → Type 0
IsAdmitPromised = IsPromisedBy WroteAnswers StoppedInAnswersText StoppedBetweenAnswers

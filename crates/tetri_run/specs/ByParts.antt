-- What a status says of planning a trace part by part, and of the bytes that were written.
use Rattle.std.specs.Prelude.{ℕ, List, Option, Result}
use Rattle.tetri_commands.specs.PartsRun.{StoppedBetweenParts, StoppedInPartsText, WroteParts}
use Rattle.tetri_trace.specs.Scenario.{Scenario}
use Rattle.tetri_notice.specs.declared.fault.TraceWhy.{TraceWhy}
use Rattle.tetri_run.specs.Promised.{IsPromisedBy}
use Rattle.tetri_run.specs.declared.status.Status.{Status}

-- What a status says of planning the trace that was read part by part, and of the written bytes
-- before and after.
abbrev pub IsPartsPromised : Status → Result Scenario (ℕ × TraceWhy) → Option (List ℕ)
    → Option (List ℕ) → Type 0
IsPartsPromised = IsPromisedBy WroteParts StoppedInPartsText StoppedBetweenParts

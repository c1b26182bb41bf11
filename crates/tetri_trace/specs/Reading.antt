-- What the reading of all lines leaves.
use Rattle.std.specs.Prelude.{◌≡◌, ℕ, Option, Result, Ok, Err}
use Rattle.tetri_notice.specs.declared.fault.TraceFault.{TraceFault}
use Rattle.tetri_notice.specs.declared.fault.TraceWhy.{TraceWhy}
use Rattle.tetri_trace.specs.Answers.{Fails}
use Rattle.tetri_trace.specs.Lines.{ended}
use Rattle.tetri_trace.specs.Scenario.{Scenario}

-- the end of a content, where the next line would have this number, or its first fault
abbrev pub LeavesEnd : Result ℕ TraceFault → Option Scenario → Result Scenario (ℕ × TraceWhy) → Type 0
LeavesEnd (Ok line) so_far reading = reading ≡ ended so_far line
LeavesEnd (Err fault) so_far reading = Fails fault reading

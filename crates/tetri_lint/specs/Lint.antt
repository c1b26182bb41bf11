-- What is said of a trace.
use Rattle.std.specs.Prelude.{ℕ, Option, Some, None, Result, Ok, Err, option_map}
use Rattle.tetri_notice.specs.declared.fault.TraceWhy.{TraceWhy}
use Rattle.tetri_lint.specs.declared.finding.Refusal.{Refusal}

-- the line and the cause of a refusal
abbrev pub cause : Refusal → ℕ × TraceWhy
cause r = (r.line, r.why)

-- why something is refused, if it is
abbrev pub refused : {A : Type 0} → Result A (ℕ × TraceWhy) → Option (ℕ × TraceWhy)
refused (Ok x) = None
refused (Err e) = Some e

-- What the reading of a trace answers.
use Rattle.std.specs.Prelude.{ℕ, ◌≡◌, Result, Ok, Err}
use Rattle.tetri_parse.specs.declared.fault.Fault.{Fault}
use Rattle.tetri_notice.specs.declared.fault.TraceWhy.{TraceWhy}
use Rattle.tetri_notice.specs.declared.fault.TraceWhy.TheVariants.{BadStrl}
use Rattle.tetri_notice.specs.declared.fault.Stop.{Stop}
use Rattle.tetri_notice.specs.declared.fault.Stop.TheVariants as stops
use Rattle.tetri_notice.specs.declared.fault.TraceFault.{TraceFault}
use Rattle.tetri_notice.specs.declared.fault.TraceFault.TheVariants as faults
use Rattle.tetri_trace.specs.declared.trace.Trace.{Trace}
use Rattle.tetri_trace.specs.Scenario.{Scenario, scenario}

-- the fault of a text is the fault of its line
abbrev pub in_text : {A : Type 0} → Result A (ℕ × Fault) → Result A TraceWhy
in_text (Ok x) = Ok x
in_text (Err e) = Err (BadStrl e.0 e.1)

-- what was found at a line
abbrev pub at_line : {A : Type 0} → ℕ → Result A TraceWhy → Result A (ℕ × TraceWhy)
at_line line (Ok x) = Ok x
at_line line (Err why) = Err (line, why)

-- What reading stopped for at a line is what the lines give, unless memory ran out or a read failed.
abbrev pub Fails : {Y : Type 0} → TraceFault → Result Y (ℕ × TraceWhy) → Type 0
Fails faults.Read reading = Unit {0}
Fails (faults.Bad line why) reading = reading ≡ Err (line, why)
Fails faults.NoMemory reading = Unit {0}

abbrev pub GivesAt : {X Y : Type 0} → (X → Y) → Result X TraceFault → Result Y (ℕ × TraceWhy) → Type 0
GivesAt view (Ok x) reading = reading ≡ Ok (view x)
GivesAt view (Err e) reading = Fails e reading

abbrev pub AnswersTrace : Result Trace TraceFault → Result Scenario (ℕ × TraceWhy) → Type 0
AnswersTrace = GivesAt scenario

-- what a step stopped for at a line
abbrev pub fault_at : ℕ → Stop → TraceFault
fault_at line (stops.Because why) = faults.Bad line why
fault_at line stops.NoMemory = faults.NoMemory

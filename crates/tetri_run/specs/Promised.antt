-- What a status promises of what was written for a trace.
use Rattle.std.specs.Prelude.{◌≡◌, ◌⊎◌, ℕ, List, Option, Result, Ok, Err}
use Rattle.tetri_trace.specs.Scenario.{Scenario}
use Rattle.tetri_notice.specs.declared.fault.TraceWhy.{TraceWhy}
use Rattle.tetri_run.specs.declared.status.Status.{Status}
use Rattle.tetri_run.specs.declared.status.Status.TheVariants.{Done, Refused, Usage, ReadFault, WriteFault, BadTrace, NoMemory}

-- What a status says of the trace that was read, and of the written bytes before and after: `Wrote`
-- once all was written, `StoppedIn` where a write failed, and `StoppedAt` where memory ran out
-- behind some texts. Of a trace that is not read nothing is promised.
module _ (Wrote StoppedIn StoppedAt : Scenario → Option (List ℕ) → Option (List ℕ) → Type 0) where
  abbrev pub IsPromisedBy : Status → Result Scenario (ℕ × TraceWhy) → Option (List ℕ)
      → Option (List ℕ) → Type 0
  IsPromisedBy Done trace before after = (t : Scenario) × (trace ≡ Ok t) × Wrote t before after
  IsPromisedBy (Refused line why) trace before after = ⊥
  IsPromisedBy Usage trace before after = Unit {0}
  IsPromisedBy ReadFault trace before after = Unit {0}
  IsPromisedBy WriteFault trace before after = (t : Scenario) × (trace ≡ Ok t)
      × StoppedIn t before after
  IsPromisedBy (BadTrace line why) trace before after = trace ≡ Err (line, why)
  IsPromisedBy NoMemory trace before after = (after ≡ before)
      ⊎ ((t : Scenario) × (trace ≡ Ok t) × StoppedAt t before after)

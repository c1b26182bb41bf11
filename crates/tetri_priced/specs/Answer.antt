-- What a status says of pricing a report.
use Rattle.std.specs.Prelude.{◌≡◌, ℕ, List, Option, Result, Ok, Err}
use Rattle.std.specs.Io.KnownBytes.{append_known}
use Rattle.tetri_io.specs.Sink.{AppendsPart}
use Rattle.tetri_notice.specs.declared.fault.TraceWhy.{TraceWhy}
use Rattle.tetri_run.specs.Check.{IsAccepted, IsRefusedAt}
use Rattle.tetri_run.specs.Run.{in_order}
use Rattle.tetri_run.specs.declared.status.Status.{Status}
use Rattle.tetri_run.specs.declared.status.Status.TheVariants.{Done, Refused, Usage, ReadFault, WriteFault, BadTrace, NoMemory}
use Rattle.tetri_space.specs.Space.{Space}
use Rattle.tetri_state.specs.Snapshot.{opening_state}
use Rattle.tetri_trace.specs.Scenario.{Scenario}
use Rattle.tetri_priced.specs.Cycle.{Given}
use Rattle.tetri_priced.specs.Run.{AreTold, IsBounded}
use Rattle.tetri_priced.specs.Text.{priced_text}
use Rattle.tetri_priced.specs.declared.cycle.PricedCycle.{PricedCycle}
use Rattle.tetri_priced.specs.declared.wanted.Wanted.{Wanted}

-- `gives` says what a pricer may answer, which stands so before the first cycle.
module _ {P : Type 0} (gives : P → Space → ℕ → ℕ → Option Given → P → Type 0) (pricer : P) where
  -- The report is accepted, and the text tells what the pricer's answers make of those of its cycles that are asked for, in their order: no
  -- lawful allotment of such a cycle's instance is worth more than the bound that is told. `last` is the pricer behind them.
  pub record TellsReport (w : Wanted) (t : Scenario) (report text : List ℕ) : Type 0 where
    pub accepted : IsAccepted t report
    pub cycles : List PricedCycle
    pub last : P
    pub told : AreTold (IsBounded gives) w t (opening_state t) pricer (in_order accepted.past) cycles last
    pub is : text ≡ priced_text t w.prices cycles

  -- What pricing a report that is checked against a trace answers, of the written bytes before and after.
  abbrev pub IsPricedAnswer : Wanted → Status → Scenario → List ℕ → Option (List ℕ) → Option (List ℕ) → Type 0
  IsPricedAnswer w Done t report before after = (text : List ℕ) × (TellsReport w t report text × (after ≡ append_known before text))
  IsPricedAnswer w (Refused line why) t report before after = IsRefusedAt t report line why × ((IsAccepted t report → ⊥) × (after ≡ before))
  IsPricedAnswer w Usage t report before after = ⊥
  IsPricedAnswer w ReadFault t report before after = after ≡ before
  IsPricedAnswer w WriteFault t report before after = (text : List ℕ) × (TellsReport w t report text × AppendsPart before after text)
  IsPricedAnswer w (BadTrace line why) t report before after = ⊥
  IsPricedAnswer w NoMemory t report before after = after ≡ before

  -- the same of the trace that was read, which may be refused
  abbrev pub IsPricedPromised : Wanted → Status → Result Scenario (ℕ × TraceWhy) → List ℕ → Option (List ℕ) → Option (List ℕ) → Type 0
  IsPricedPromised w (BadTrace line why) trace report before after = (trace ≡ Err (line, why)) × (after ≡ before)
  IsPricedPromised w ReadFault trace report before after = after ≡ before
  IsPricedPromised w NoMemory trace report before after = after ≡ before
  IsPricedPromised w status trace report before after = (t : Scenario) × ((trace ≡ Ok t) × IsPricedAnswer w status t report before after)

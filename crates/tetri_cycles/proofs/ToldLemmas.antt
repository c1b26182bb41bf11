-- What was told of runs of one sort, as told of runs of another.
use Rattle.std.proofs.Common.{ℕ, List, ◌∷◌}
use Rattle.std.specs.Prelude.{Option}
use Rattle.tetri_trace.specs.Scenario.{Scenario}
use Rattle.tetri_cycles.specs.Planning.{Kind}
use Rattle.tetri_cycles.specs.Told.{IsToldRun, NextText, cycle, summary, StoppedBetween, StoppedInText, WroteRun}

module _ {Telling : Type 0} (k : Kind Telling) (telling : Telling) (IsSuch IsOther : Scenario → List k.Cycle → Type 0) (t : Scenario)
    (other : (past : List k.Cycle) → IsSuch t past → IsOther t past) (before now : Option (List ℕ)) where
  told_of : (past : List k.Cycle) (text : List ℕ) → IsToldRun k telling IsSuch t past text → IsToldRun k telling IsOther t past text
  told_of past text told = record { run = other past told.run; told = told.told }

  next_of : (past : List k.Cycle) (text : List ℕ) → NextText k telling IsSuch t past text → NextText k telling IsOther t past text
  next_of past text (cycle c _ run told) = cycle c text (other (c ∷ past) run) told
  next_of past _ (summary whole) = summary whole

  pub between_of : StoppedBetween k telling IsSuch t before now → StoppedBetween k telling IsOther t before now
  between_of stop = record { past = stop.past; front = stop.front; told = told_of stop.past stop.front stop.told; written = stop.written }

  pub stopped_of : StoppedInText k telling IsSuch t before now → StoppedInText k telling IsOther t before now
  stopped_of stop = record {
    past = stop.past;
    front = stop.front;
    told = told_of stop.past stop.front stop.told;
    text = stop.text;
    next = next_of stop.past stop.text stop.next;
    part = stop.part;
    proper = stop.proper;
    written = stop.written;
  }

  pub wrote_of : WroteRun k telling IsSuch t before now → WroteRun k telling IsOther t before now
  wrote_of wrote = record {
    past = wrote.past;
    text = wrote.text;
    told = told_of wrote.past wrote.text wrote.told;
    whole = wrote.whole;
    in_range = wrote.in_range;
    written = wrote.written;
  }

use Rattle.std.proofs.Common.{◌≡◌, ◌≤◌, ◌<◌, ◌-◌, ◌+◌, ◌^◌, List, ℕ, drop, map}
use Rattle.std.specs.Prelude.{Some, Result}
use Rattle.tetri_cycles.specs.Observed.{Observed}
use Rattle.tetri_io.specs.LineReader.{IsAhead, place}
use Rattle.tetri_io.specs.Lines.{lines_from}
use Rattle.tetri_report.specs.Block.{Block}
use Rattle.tetri_state.specs.Snapshot.{opening_state}
use Rattle.tetri_trace.specs.Scenario.{scenario}
use Rattle.tetri_run.specs.Check.{Checking, ComesTo, lines_in, unchecked}
use Rattle.tetri_run.specs.Checked.{IsAt}
use Rattle.tetri_run.specs.Run.{in_order}
use Rattle.tetri_run.specs.declared.why.Why.{Why}
use Rattle.tetri_run.proofs.check.check_report.Given as goal

abbrev pub invariant-lines : goal.invariant-lines
invariant-lines g l = record {
  checking : Checking;
  at : IsAt (scenario l.trace) checking l.progress;
  observed : Observed g.O.Observer.saw (scenario l.trace) (opening_state (scenario l.trace)) (in_order checking.past) l.fn.observer l.observer;
  rest : (content : List ℕ) → g.S.Shelf.told l.fn.shelf l.name ≡ Some content → (outcome : Result (List Block) (ℕ × Why)) →
      ComesTo (scenario l.trace) checking (map (λ line. line.0) (lines_from (place l.reader) (drop (place l.reader) content))) outcome →
      ComesTo (scenario l.trace) unchecked (lines_in content) outcome;
  number : l.number ≡ l.progress.strips.lines + 1;
  counted : l.number ≤ place l.reader + 1;
  small : place l.reader < 2 ^ 63;
  ahead : (content : List ℕ) → g.S.Shelf.told l.fn.shelf l.name ≡ Some content → IsAhead content l.reader;
  same : g.S.Shelf.told l.shelf ≡ g.S.Shelf.told l.fn.shelf;
  later : (other : List ℕ) → g.S.Shelf.faults l.fn.shelf other ≤ g.S.Shelf.faults l.shelf other;
}

abbrev pub decreases-lines : goal.decreases-lines
decreases-lines g l = 2 ^ 63 - place l.reader

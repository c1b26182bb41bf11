use Rattle.std.proofs.Common.{◌≡◌, ◌≤◌, ◌-◌, ◌+◌, List, ℕ, drop}
use Rattle.std.specs.Prelude.{Some, option_map}
use Rattle.std.specs.Option.{ForSome}
use Rattle.tetri_io.specs.LineReader.{place, IsAhead}
use Rattle.tetri_io.specs.Lines.{lines_from}
use Rattle.tetri_trace.specs.Draft.{so_far, IsSoundDraft}
use Rattle.tetri_trace.specs.Lines.{scenario_in, from_lines}
use Rattle.tetri_trace.proofs.read.read_lines.Given as goal

abbrev pub invariant-lines : goal.invariant-lines
invariant-lines g l = record {
  short : place l.reader ≤ 67108864;
  sound : ForSome l.draft IsSoundDraft;
  counted : l.line ≤ place l.reader + 1;
  ahead : (content : List ℕ) → g.S.Shelf.told l.fn.shelf l.name ≡ Some content → IsAhead content l.reader;
  lines : (content : List ℕ) → g.S.Shelf.told l.fn.shelf l.name ≡ Some content →
      scenario_in content ≡ from_lines (option_map so_far l.draft) l.line (lines_from (place l.reader) (drop (place l.reader) content));
  same : g.S.Shelf.told l.shelf ≡ g.S.Shelf.told l.fn.shelf;
  later : (other : List ℕ) → g.S.Shelf.faults l.fn.shelf other ≤ g.S.Shelf.faults l.shelf other;
}

abbrev pub decreases-lines : goal.decreases-lines
decreases-lines g l = 67108864 - place l.reader

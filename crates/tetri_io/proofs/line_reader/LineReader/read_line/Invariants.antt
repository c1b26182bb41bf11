use Rattle.std.proofs.Common.{◌≡◌, ◌+◌, ◌-◌, ◌<◌, ◌≤◌, ◌^◌, ℕ, List, length, drop, vec_len}
use Rattle.std.specs.Prelude.{Some, Contains}
use Rattle.tetri_io.specs.Lines.{lines_from, onto}
use Rattle.tetri_io.specs.LineReader.{ahead, IsAhead}
use Rattle.tetri_io.proofs.line_reader.LineReader.read_line.Given as goal

abbrev pub invariant-pieces : goal.invariant-pieces
invariant-pieces g l = record {
  place : l.self.at ≡ l.fn.self.at + vec_len l.bytes;
  short : vec_len l.bytes ≤ l.limit;
  stands : (content : List ℕ) → g.S.Shelf.told l.fn.shelf l.name ≡ Some content → IsAhead content l.self;
  lines : (content : List ℕ) → g.S.Shelf.told l.fn.shelf l.name ≡ Some content →
      lines_from l.fn.self.at (drop l.fn.self.at content) ≡ onto l.bytes.items l.self.at (lines_from l.self.at (drop l.self.at content));
  within : (content : List ℕ) → g.S.Shelf.told l.fn.shelf l.name ≡ Some content → l.fn.self.at < l.self.at → l.self.at ≤ length content;
  kept : Contains (ahead l.fn.self) 10 → (l.shelf ≡ l.fn.shelf) × (ahead l.self ≡ ahead l.fn.self);
  same : g.S.Shelf.told l.shelf ≡ g.S.Shelf.told l.fn.shelf;
  later : (other : List ℕ) → g.S.Shelf.faults l.fn.shelf other ≤ g.S.Shelf.faults l.shelf other;
}

abbrev pub decreases-pieces : goal.decreases-pieces
decreases-pieces g l = 2 ^ 63 - l.self.at

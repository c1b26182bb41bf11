use Rattle.std.proofs.Common.{◌≡◌, ◌≤◌, ◌<◌, ◌-◌, List, ℕ}
use Rattle.std.specs.Prelude.{vec_len}
use Rattle.tetri_lint.proofs.whole.text_of.Given as goal

abbrev pub invariant-chunks : goal.invariant-chunks
invariant-chunks g l = record {
  short : vec_len l.bytes ≤ 67108864;
  room : 0 < vec_len l.chunk;
  same : g.S.Shelf.told l.shelf ≡ g.S.Shelf.told l.fn.shelf;
  later : (other : List ℕ) → g.S.Shelf.faults l.fn.shelf other ≤ g.S.Shelf.faults l.shelf other;
}

abbrev pub decreases-chunks : goal.decreases-chunks
decreases-chunks g l = 67108864 - vec_len l.bytes

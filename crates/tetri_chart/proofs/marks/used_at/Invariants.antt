use Rattle.std.proofs.Common.{◌≡◌, ◌+◌, ◌≤◌, drop}
use Rattle.std.specs.Prelude.{min}
use Rattle.tetri_chart.specs.Marks.{used_at}
use Rattle.tetri_chart.proofs.marks.used_at.Given as goal

abbrev pub invariant-loop-piece : goal.invariant-loop-piece
invariant-loop-piece l = record {
  used : min (l.used + used_at l.now (drop l.piece-index l.pieces)) l.most ≡ min (used_at l.now l.pieces) l.most;
  within : l.used ≤ l.most;
}

use Rattle.std.proofs.Common.{◌≡◌, ◌+◌, ◌≤◌, drop}
use Rattle.std.specs.Prelude.{min, option_map}
use Rattle.tetri_base.specs.Lists.{sum_of}
use Rattle.tetri_figures.specs.Figures.{most, piece_slots}
use Rattle.tetri_figures.proofs.sums.row_slots.Given as goal

abbrev pub invariant-loop-piece : goal.invariant-loop-piece
invariant-loop-piece l = record {
  told : min (l.sum + sum_of (piece_slots (option_map (λ m. m.now) l.counted) l.end) (drop l.piece-index l.piece-items)) most
      ≡ min (sum_of (piece_slots (option_map (λ m. m.now) l.counted) l.end) l.piece-items) most;
  few : l.sum ≤ most;
}

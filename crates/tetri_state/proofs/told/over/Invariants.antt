use Rattle.std.proofs.Common.{◌≡◌, ◌<◌, ◌^◌, ◌++◌, All, drop, map, filter}
use Rattle.std.specs.Prelude.{not, ◌&&◌}
use Rattle.tetri_state.specs.Begin.{has_ended, is_over, named, runs}
use Rattle.tetri_state.proofs.told.over.Given as goal

abbrev pub invariant-loop-piece : goal.invariant-loop-piece
invariant-loop-piece l = record {
  told :
      l.ids.items ++ map named (filter (is_over l.now) (filter (λ p. not (has_ended l.now p) && runs l.running p.job) (drop l.piece-index l.pieces)))
      ≡ map named (filter (is_over l.now) (filter (λ p. not (has_ended l.now p) && runs l.running p.job) l.pieces));
  leaves : All (λ a. a.leaf < 2 ^ 32) l.ids.items;
}

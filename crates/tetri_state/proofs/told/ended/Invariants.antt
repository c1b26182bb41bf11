use Rattle.std.proofs.Common.{◌≡◌, ◌<◌, ◌^◌, ◌++◌, All, drop, map, filter}
use Rattle.tetri_state.specs.Begin.{has_ended, named}
use Rattle.tetri_state.proofs.told.ended.Given as goal

abbrev pub invariant-loop-piece : goal.invariant-loop-piece
invariant-loop-piece l = record {
  told : l.ids.items ++ map named (filter (has_ended l.now) (drop l.piece-index l.pieces)) ≡ map named (filter (has_ended l.now) l.pieces);
  leaves : All (λ a. a.leaf < 2 ^ 32) l.ids.items;
}

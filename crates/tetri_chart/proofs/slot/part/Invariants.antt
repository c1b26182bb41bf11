use Rattle.std.proofs.Common.{◌≡◌, ◌++◌, length}
use Rattle.std.specs.Vec.Iter.{into_iter_items, into_iter_len}
use Rattle.tetri_state.specs.Begin.{occurrences}
use Rattle.tetri_chart.specs.Pieces.{leaving, staying}
use Rattle.tetri_chart.proofs.slot.part.Given as goal

abbrev pub invariant-loop-piece : goal.invariant-loop-piece
invariant-loop-piece l = record {
  active : l.staying.items ++ staying (occurrences l.happened) l.now (into_iter_items l.piece-iterator)
      ≡ staying (occurrences l.happened) l.now (into_iter_items l.initial.piece-iterator);
  spans : l.spans.items ++ leaving (occurrences l.happened) l.now (into_iter_items l.piece-iterator)
      ≡ l.initial.spans.items ++ leaving (occurrences l.happened) l.now (into_iter_items l.initial.piece-iterator);
  counted : into_iter_len l.piece-iterator ≡ length (into_iter_items l.piece-iterator);
}

use Rattle.std.proofs.Common.{◌≡◌, ◌++◌, length}
use Rattle.std.specs.Vec.Iter.{into_iter_items, into_iter_len}
use Rattle.tetri_state.specs.Begin.{occurrences}
use Rattle.tetri_accounts.specs.Rows.{leaving, staying}
use Rattle.tetri_accounts.proofs.slot.part.Given as goal

abbrev pub invariant-loop-row : goal.invariant-loop-row
invariant-loop-row l = record {
  running : l.staying.items ++ staying (occurrences l.happened) l.now (into_iter_items l.row-iterator)
      ≡ staying (occurrences l.happened) l.now (into_iter_items l.initial.row-iterator);
  left : l.left.items ++ leaving (occurrences l.happened) l.now (into_iter_items l.row-iterator)
      ≡ l.initial.left.items ++ leaving (occurrences l.happened) l.now (into_iter_items l.initial.row-iterator);
  counted : into_iter_len l.row-iterator ≡ length (into_iter_items l.row-iterator);
}

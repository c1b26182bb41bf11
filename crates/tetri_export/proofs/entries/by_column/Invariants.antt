use Rattle.std.proofs.Common.{◌≡◌, ◌<◌, ◌++◌, ℕ, length, drop}
use Rattle.tetri_base.specs.Lists.{list_at}
use Rattle.tetri_export.specs.Mps.{entries_at}
use Rattle.tetri_export.proofs.entries.by_column.Given as goal

abbrev pub invariant-loop-entry : goal.invariant-loop-entry
invariant-loop-entry l = record {
  count : length l.lists.items ≡ l.count;
  columns : (j : ℕ) → j < l.count → list_at l.lists.items j ++ entries_at (drop l.entry-index l.entries) j ≡ entries_at l.entries j;
}

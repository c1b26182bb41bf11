use Rattle.std.proofs.Common.{◌≡◌, ◌++◌, drop}
use Rattle.tetri_export.specs.Mps.{row_entries}
use Rattle.tetri_export.proofs.entries.add_entries.Given as goal

abbrev pub invariant-loop-term : goal.invariant-loop-term
invariant-loop-term l = l.out.items ++ row_entries l.row (drop l.term-index l.terms) ≡ l.fn.out.items ++ row_entries l.row l.terms

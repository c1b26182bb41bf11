use Rattle.std.proofs.Common.{◌≡◌, ◌++◌, drop, map}
use Rattle.tetri_compile.specs.Flat.{plain_row}
use Rattle.tetri_export.specs.Mps.{entries_from}
use Rattle.tetri_export.proofs.entries.entries_of.Given as goal

abbrev pub invariant-loop-row : goal.invariant-loop-row
invariant-loop-row l = l.entries.items ++ entries_from l.row (map plain_row (drop l.row l.rows)) ≡ entries_from 0 (map plain_row l.rows)

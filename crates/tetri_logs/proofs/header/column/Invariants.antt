use Rattle.std.proofs.Common.{◌≡◌, ◌+◌, drop, map}
use Rattle.tetri_logs.specs.Header.{column, column_from}
use Rattle.tetri_logs.proofs.header.column.Given as goal

abbrev pub invariant-loop-i : goal.invariant-loop-i
invariant-loop-i l = column l.name (map (λ w. w.now) l.names) ≡ column_from (l.i + 1) l.name (map (λ w. w.now) (drop l.i l.names))

use Rattle.std.proofs.Common.{◌≡◌, length}
use Rattle.tetri_lagrange.proofs.searching.row_of.Given as goal

abbrev pub invariant-loop-slot : goal.invariant-loop-slot
invariant-loop-slot l = length l.row.items ≡ l.slot

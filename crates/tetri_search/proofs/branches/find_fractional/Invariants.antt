use Rattle.std.proofs.Common.{◌≡◌, drop, map}
use Rattle.tetri_num.specs.Frac.{value}
use Rattle.tetri_search.specs.Table.{fractional_from}
use Rattle.tetri_search.proofs.branches.find_fractional.Given as goal

abbrev pub invariant-loop-j : goal.invariant-loop-j
invariant-loop-j l = fractional_from 0 (map value l.point) ≡ fractional_from l.j (map value (drop l.j l.point))

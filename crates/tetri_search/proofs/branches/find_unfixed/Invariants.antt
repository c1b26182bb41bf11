use Rattle.std.proofs.Common.{◌≡◌, drop}
use Rattle.tetri_search.specs.Table.{unfixed_from}
use Rattle.tetri_search.proofs.branches.find_unfixed.Given as goal

abbrev pub invariant-loop-j : goal.invariant-loop-j
invariant-loop-j l = unfixed_from 0 l.r.lower.items l.r.upper.items ≡ unfixed_from l.j (drop l.j l.r.lower.items) (drop l.j l.r.upper.items)

use Rattle.std.proofs.Common.{◌≡◌, ◌++◌, drop}
use Rattle.tetri_dictionary.specs.Start.{corner}
use Rattle.tetri_dictionary.proofs.start.corner.Given as goal

abbrev pub invariant-loop-j : goal.invariant-loop-j
invariant-loop-j l =
    l.start.items ++ corner (drop l.j l.p.costs.items) (drop l.j l.r.lower.items) (drop l.j l.r.upper.items)
    ≡ corner l.p.costs.items l.r.lower.items l.r.upper.items

use Rattle.std.proofs.Common.{◌≡◌, ◌++◌, drop}
use Rattle.tetri_cuts.specs.Cuts.{quotients}
use Rattle.tetri_cuts.proofs.cuts.divided.Given as goal

abbrev pub invariant-loop-j : goal.invariant-loop-j
invariant-loop-j l = l.terms.items ++ quotients l.q l.j (drop l.j l.sums.columns.items) ≡ quotients l.q 0 l.sums.columns.items

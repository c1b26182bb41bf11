use Rattle.std.proofs.Common.{◌-◌, length}
use Rattle.tetri_cuts.proofs.RoundLemmas.{Holds}
use Rattle.tetri_cuts.proofs.tightening.tighten.Given as goal

abbrev pub invariant-adding : goal.invariant-adding
invariant-adding l = Holds l.p l.cuts.items l.current l.root

abbrev pub decreases-adding : goal.decreases-adding
decreases-adding l = 17 - length l.cuts.items

use Rattle.std.proofs.Common.{◌≡◌, fold, take}
use Rattle.tetri_hosts.specs.Expanding.{with_back}
use Rattle.tetri_hosts.proofs.expansion.add_joined.Given as goal

abbrev pub invariant-loop-back : goal.invariant-loop-back
invariant-loop-back l = l.all ≡ fold (with_back l.front) l.initial.all (take l.back-index l.backs)

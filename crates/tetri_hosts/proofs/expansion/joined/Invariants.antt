use Rattle.std.proofs.Common.{◌≡◌, [], fold, take}
use Rattle.tetri_hosts.specs.Expanding.{with_front}
use Rattle.tetri_hosts.proofs.expansion.joined.Given as goal

abbrev pub invariant-loop-front : goal.invariant-loop-front
invariant-loop-front l = l.all ≡ fold (with_front l.backs) [] (take l.front-index l.fronts)

use Rattle.std.proofs.Common.{◌≡◌}
use Rattle.tetri_hosts.specs.Expanding.{texts_between}
use Rattle.tetri_hosts.proofs.expansion.texts_between.Given as goal

abbrev pub invariant-loop-k : goal.invariant-loop-k
invariant-loop-k l = l.words ≡ texts_between l.width l.first l.k

use Rattle.std.proofs.Common.{◌≡◌, fold}
use Rattle.tetri_hosts.specs.Expanding.{with_host}
use Rattle.tetri_hosts.proofs.expansion.Expansion.end_hosts.Given as goal

abbrev pub invariant-loop-host : goal.invariant-loop-host
invariant-loop-host l = l.self ≡ fold with_host l.initial.self l.yielded

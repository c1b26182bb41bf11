use Rattle.std.proofs.Common.{◌≡◌, ◌++◌, string_bytes}
use Rattle.tetri_hosts.specs.Expanding.{zeros}
use Rattle.tetri_hosts.proofs.expansion.add_zeros.Given as goal

abbrev pub invariant-loop-done : goal.invariant-loop-done
invariant-loop-done l = string_bytes l.text ≡ string_bytes l.initial.text ++ zeros l.done

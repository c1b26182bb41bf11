use Rattle.std.proofs.Common.{◌≡◌, fold, take}
use Rattle.tetri_hosts.specs.Expanding.{nothing_read, with_byte}
use Rattle.tetri_hosts.proofs.expansion.expansion_of.Given as goal

abbrev pub invariant-loop-byte : goal.invariant-loop-byte
invariant-loop-byte l = l.read ≡ fold (with_byte l.most) nothing_read (take l.byte-index l.text)

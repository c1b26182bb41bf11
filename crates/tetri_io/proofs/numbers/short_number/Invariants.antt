use Rattle.std.proofs.Common.{◌≡◌, take}
use Rattle.std.specs.Str.Parse.{digits_value}
use Rattle.tetri_io.proofs.Digits.{AreDigits}
use Rattle.tetri_io.proofs.numbers.short_number.Given as goal

abbrev pub invariant-loop-byte : goal.invariant-loop-byte
invariant-loop-byte l = AreDigits (take l.byte-index l.bytes) × (l.number ≡ digits_value 10 (take l.byte-index l.bytes))

use Rattle.std.proofs.Common.{◌≡◌, ◌-◌, ◌^◌, min, take}
use Rattle.tetri_parse.specs.Tokens.{numeral}
use Rattle.tetri_parse.proofs.number.numeral.Given as goal

abbrev pub invariant-loop-digit : goal.invariant-loop-digit
invariant-loop-digit l = l.value ≡ min (2 ^ 64 - 1) (numeral (take l.digit-index l.digits))

use Rattle.std.proofs.Common.{arith}
use Rattle.tetri_num.proofs.FractionLaws.{value-negated}
use Rattle.tetri_dictionary.proofs.Signed.{signed}
use Rattle.tetri_dictionary.proofs.Numbers.{number_read}
use Rattle.tetri_dictionary.proofs.fractions.negated.Goals as goal

pub returns : goal.returns
returns c = value-negated _ c.args.x (grind (arith, signed)) (number_read c.args.x.den c.args.x.lowest.den_within)

use Rattle.std.proofs.Common.{arith}
use Rattle.tetri_num.proofs.Signed.{signed}
use Rattle.tetri_num.proofs.Greatest.{IsLcm-some}
use Rattle.tetri_num.proofs.divisors.lcm.Goals as goal

pub returns-clause-least : goal.returns-clause-least
returns-clause-least c = IsLcm-some c.args.a c.args.b c.product.result c.requires.left c.requires.right (grind (arith, signed))

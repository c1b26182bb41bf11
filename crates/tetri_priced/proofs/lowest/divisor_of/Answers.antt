use Rattle.std.proofs.Common.{arith}
use Rattle.tetri_priced.proofs.LowestLemmas.{divisor_small}
use Rattle.tetri_priced.proofs.lowest.divisor_of.Goals as goal

pub overflow_cast-result : goal.overflow_cast-result
overflow_cast-result c = omega (arith, c.common.ensures, (divisor_small c.args.a c.args.b c.requires).0)

pub returns-clause-some : goal.returns-clause-some
returns-clause-some c = omega (arith, c.common.ensures, (divisor_small c.args.a c.args.b c.requires).1)

use Rattle.std.proofs.Common.{arith}
use Rattle.tetri_num.proofs.Binary.{odd_quotient, odd_quotient-mul}
use Rattle.tetri_num.proofs.divisors.odd_part.Goals as goal

pub returns-clause-odd : goal.returns-clause-odd
returns-clause-odd c = odd_quotient c.args.n c.requires (omega arith)

pub returns-clause-part : goal.returns-clause-part
returns-clause-part c = odd_quotient-mul c.args.n c.requires (omega arith)

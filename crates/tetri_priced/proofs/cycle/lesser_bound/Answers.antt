use Rattle.std.proofs.Common.{arith}
use Rattle.tetri_priced.proofs.cycle.lesser_bound.Goals as goal

pub returns-clause-bounds : goal.returns-clause-bounds
returns-clause-bounds c = λ bound a lawful. omega (arith, bound a lawful, c.in_ok-priced.ensures.bounds a lawful)

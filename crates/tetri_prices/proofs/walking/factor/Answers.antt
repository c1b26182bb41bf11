use Rattle.std.proofs.Common.{◌^◌, zero-mul, arith}
use Rattle.tetri_prices.proofs.WalkLemmas.{factor_few}
use Rattle.tetri_prices.proofs.walking.factor.Goals as goal

pub returns-in-Some-clause-fits : goal.returns-in-Some-clause-fits
returns-in-Some-clause-fits c = λ p few. factor_few c.args.times c.from.result c.args.by c.in-Some.product p (2 ^ 80) c.in-Some.ensures.1 c.from.ensures few

pub returns-in-None-clause-fits : goal.returns-in-None-clause-fits
returns-in-None-clause-fits c = λ p few. omega (arith, zero-mul p)

use Rattle.std.proofs.lemmas.Bool.{eqb-true}
use Rattle.tetri_num.proofs.FractionLaws.{number_is}
use Rattle.tetri_dictionary.proofs.ShortWays.{minus_one_is}
use Rattle.tetri_dictionary.proofs.short_ways.is_minus_one.Goals as goal

pub returns-then-x-eq340282366920938463463374607431768211455 : goal.returns-then-x-eq340282366920938463463374607431768211455
returns-then-x-eq340282366920938463463374607431768211455 c =
    λ h. minus_one_is c.args.x (number_is c.args.x.num 340282366920938463463374607431768211455 c.args.x.lowest.num_within c.if-x-eq340282366920938463463374607431768211455.true) (number_is c.args.x.den 1 c.args.x.lowest.den_within (eqb-true _ 1 h))

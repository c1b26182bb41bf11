use Rattle.std.proofs.lemmas.Bool.{eqb-true}
use Rattle.tetri_num.proofs.FractionLaws.{number_is}
use Rattle.tetri_dictionary.proofs.ShortWays.{one_is}
use Rattle.tetri_dictionary.proofs.short_ways.is_one.Goals as goal

pub returns-then-x-eq1 : goal.returns-then-x-eq1
returns-then-x-eq1 c =
    λ h. one_is c.args.x (number_is c.args.x.num 1 c.args.x.lowest.num_within c.if-x-eq1.true) (number_is c.args.x.den 1 c.args.x.lowest.den_within (eqb-true _ 1 h))

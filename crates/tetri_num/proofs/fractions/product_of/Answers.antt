use Rattle.std.proofs.Common.{arith, refl}
use lib.IntN.{◌*ℤ◌}
use Rattle.tetri_num.proofs.Signed.{signed}
use Rattle.tetri_num.proofs.Values.{whole_lowest}
use Rattle.tetri_num.proofs.Short.{number_is, wholes_product_num, wholes_product_den, wholes_product_within, product_left_num, product_left_den, product_left_within, product_right_num, product_right_den, product_right_within}
use Rattle.tetri_num.proofs.fractions.product_of.Goals as goal

pub invariant_of-result : goal.invariant_of-result
invariant_of-result c = record { lowest = whole_lowest _ _ (c.args.x.num *ℤ c.args.y.num) (grind (arith, signed)) refl (grind (arith, signed)) }

pub returns-then-y-eq1-clause-some : goal.returns-then-y-eq1-clause-some
returns-then-y-eq1-clause-some c = (λ _. wholes_product_within c.args.x.num c.args.x.den c.args.y.num c.args.y.den (number_is c.args.x.den 1 c.args.x.lowest.den_within c.if-x-eq1.true) (number_is c.args.y.den 1 c.args.y.lowest.den_within c.if-y-eq1.true) (grind (arith, signed)), λ _. refl)

pub returns-then-y-eq1-clause-num : goal.returns-then-y-eq1-clause-num
returns-then-y-eq1-clause-num c = wholes_product_num c.args.x.num c.args.x.den c.args.y.num c.args.y.den _ (number_is c.args.x.den 1 c.args.x.lowest.den_within c.if-x-eq1.true) (number_is c.args.y.den 1 c.args.y.lowest.den_within c.if-y-eq1.true) (grind (arith, signed))

pub returns-then-y-eq1-clause-den : goal.returns-then-y-eq1-clause-den
returns-then-y-eq1-clause-den c = wholes_product_den c.args.x.num c.args.x.den c.args.y.num c.args.y.den (number_is c.args.x.den 1 c.args.x.lowest.den_within c.if-x-eq1.true) (number_is c.args.y.den 1 c.args.y.lowest.den_within c.if-y-eq1.true)

pub returns-then-x-eq0-clause-some : goal.returns-then-x-eq0-clause-some
returns-then-x-eq0-clause-some c = (λ _. product_left_within c.args.x.num c.args.x.den c.args.y.num c.args.y.den (number_is c.args.x.num 0 c.args.x.lowest.num_within c.if-x-eq0.true) c.args.x.lowest c.args.y.lowest, λ _. refl)

pub returns-then-x-eq0-clause-num : goal.returns-then-x-eq0-clause-num
returns-then-x-eq0-clause-num c = product_left_num c.args.x.num c.args.x.den c.args.y.num c.args.y.den (number_is c.args.x.num 0 c.args.x.lowest.num_within c.if-x-eq0.true) c.args.x.lowest

pub returns-then-x-eq0-clause-den : goal.returns-then-x-eq0-clause-den
returns-then-x-eq0-clause-den c = product_left_den c.args.x.num c.args.x.den c.args.y.num c.args.y.den (number_is c.args.x.num 0 c.args.x.lowest.num_within c.if-x-eq0.true) c.args.x.lowest c.args.y.lowest

pub returns-then-y-eq0-clause-some : goal.returns-then-y-eq0-clause-some
returns-then-y-eq0-clause-some c = (λ _. product_right_within c.args.x.num c.args.x.den c.args.y.num c.args.y.den (number_is c.args.y.num 0 c.args.y.lowest.num_within c.if-y-eq0.true) c.args.x.lowest c.args.y.lowest, λ _. refl)

pub returns-then-y-eq0-clause-num : goal.returns-then-y-eq0-clause-num
returns-then-y-eq0-clause-num c = product_right_num c.args.x.num c.args.x.den c.args.y.num c.args.y.den (number_is c.args.y.num 0 c.args.y.lowest.num_within c.if-y-eq0.true) c.args.y.lowest

pub returns-then-y-eq0-clause-den : goal.returns-then-y-eq0-clause-den
returns-then-y-eq0-clause-den c = product_right_den c.args.x.num c.args.x.den c.args.y.num c.args.y.den (number_is c.args.y.num 0 c.args.y.lowest.num_within c.if-y-eq0.true) c.args.x.lowest c.args.y.lowest

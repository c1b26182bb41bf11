use Rattle.std.proofs.Common.{arith, refl}
use lib.IntN.{◌+ℤ◌}
use Rattle.tetri_num.proofs.Signed.{signed}
use Rattle.tetri_num.proofs.Values.{whole_lowest}
use Rattle.tetri_num.proofs.Short.{number_is, wholes_sum_num, wholes_sum_den, wholes_sum_within, wholes_sum_total, sum_left_num, sum_left_den, sum_left_within, sum_right_num, sum_right_den, sum_right_within}
use Rattle.tetri_num.proofs.fractions.sum_of.Goals as goal

pub invariant_of-result : goal.invariant_of-result
invariant_of-result c = record { lowest = whole_lowest _ _ (c.args.x.num +ℤ c.args.y.num) (grind (arith, signed)) refl (grind (arith, signed)) }

pub returns-in_err-num-clause-some : goal.returns-in_err-num-clause-some
returns-in_err-num-clause-some c = (λ h. absurd (grind (arith, signed)), λ h. let w = wholes_sum_total c.args.x.num c.args.x.den c.args.y.num c.args.y.den (number_is c.args.x.den 1 c.args.x.lowest.den_within c.if-x-eq1.true) (number_is c.args.y.den 1 c.args.y.lowest.den_within c.if-y-eq1.true) h in absurd (grind (arith, signed)))

pub returns-then-y-eq1-clause-some : goal.returns-then-y-eq1-clause-some
returns-then-y-eq1-clause-some c = (λ _. wholes_sum_within c.args.x.num c.args.x.den c.args.y.num c.args.y.den (number_is c.args.x.den 1 c.args.x.lowest.den_within c.if-x-eq1.true) (number_is c.args.y.den 1 c.args.y.lowest.den_within c.if-y-eq1.true) c.args.x.lowest.num_within c.args.y.lowest.num_within (grind (arith, signed)), λ _. refl)

pub returns-then-y-eq1-clause-num : goal.returns-then-y-eq1-clause-num
returns-then-y-eq1-clause-num c = wholes_sum_num c.args.x.num c.args.x.den c.args.y.num c.args.y.den _ (number_is c.args.x.den 1 c.args.x.lowest.den_within c.if-x-eq1.true) (number_is c.args.y.den 1 c.args.y.lowest.den_within c.if-y-eq1.true) (grind (arith, signed))

pub returns-then-y-eq1-clause-den : goal.returns-then-y-eq1-clause-den
returns-then-y-eq1-clause-den c = wholes_sum_den c.args.x.num c.args.x.den c.args.y.num c.args.y.den (number_is c.args.x.den 1 c.args.x.lowest.den_within c.if-x-eq1.true) (number_is c.args.y.den 1 c.args.y.lowest.den_within c.if-y-eq1.true)

pub returns-then-x-eq0-clause-some : goal.returns-then-x-eq0-clause-some
returns-then-x-eq0-clause-some c = (λ _. sum_left_within c.args.x.num c.args.x.den c.args.y.num c.args.y.den (number_is c.args.x.num 0 c.args.x.lowest.num_within c.if-x-eq0.true) c.args.x.lowest c.args.y.lowest, λ _. refl)

pub returns-then-x-eq0-clause-num : goal.returns-then-x-eq0-clause-num
returns-then-x-eq0-clause-num c = sum_left_num c.args.x.num c.args.x.den c.args.y.num c.args.y.den (number_is c.args.x.num 0 c.args.x.lowest.num_within c.if-x-eq0.true) c.args.x.lowest

pub returns-then-x-eq0-clause-den : goal.returns-then-x-eq0-clause-den
returns-then-x-eq0-clause-den c = sum_left_den c.args.x.num c.args.x.den c.args.y.num c.args.y.den (number_is c.args.x.num 0 c.args.x.lowest.num_within c.if-x-eq0.true) c.args.x.lowest

pub returns-then-y-eq0-clause-some : goal.returns-then-y-eq0-clause-some
returns-then-y-eq0-clause-some c = (λ _. sum_right_within c.args.x.num c.args.x.den c.args.y.num c.args.y.den (number_is c.args.y.num 0 c.args.y.lowest.num_within c.if-y-eq0.true) c.args.x.lowest c.args.y.lowest, λ _. refl)

pub returns-then-y-eq0-clause-num : goal.returns-then-y-eq0-clause-num
returns-then-y-eq0-clause-num c = sum_right_num c.args.x.num c.args.x.den c.args.y.num c.args.y.den (number_is c.args.y.num 0 c.args.y.lowest.num_within c.if-y-eq0.true) c.args.y.lowest

pub returns-then-y-eq0-clause-den : goal.returns-then-y-eq0-clause-den
returns-then-y-eq0-clause-den c = sum_right_den c.args.x.num c.args.x.den c.args.y.num c.args.y.den (number_is c.args.y.num 0 c.args.y.lowest.num_within c.if-y-eq0.true) c.args.y.lowest

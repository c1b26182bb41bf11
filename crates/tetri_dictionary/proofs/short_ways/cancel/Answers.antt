use Rattle.std.proofs.Common.{◌≡◌, arith}
use Rattle.std.proofs.lemmas.Bool.{eqb-true}
use lib.IntN.{neg_ℤ}
use Rattle.tetri_num.proofs.FractionLaws.{same_bits, value-negated}
use Rattle.tetri_dictionary.proofs.Signed.{signed}
use Rattle.tetri_dictionary.proofs.short_ways.cancel.Goals as goal

pub returns-then-y-x : goal.returns-then-y-x
returns-then-y-x c =
    let e : c.args.y.num ≡ neg_ℤ c.args.x.num = grind (arith, signed) in
    λ h. value-negated c.args.y c.args.x e (same_bits c.args.y.den c.args.x.den c.args.y.lowest.den_within c.args.x.lowest.den_within (eqb-true _ _ h))

use Rattle.std.proofs.Common.{arith, to_z, of_z}
use mir.Syntax.{w128}
use Rattle.tetri_cert.proofs.NumbersSigned.{signed}
use Rattle.tetri_cert.proofs.NumbersReduced.{frac_of-parts, not_above_zero, not_reduced}
use Rattle.tetri_cert.proofs.words.frac_of.Goals as goal
use Rattle.tetri_cert.proofs.words.frac_of.Goals.{else-reduced-num-via-then-reduced-num+else-reduced-den, else-reduced-num-via-else-reduced-num}

pub returns-then-den-le0 : goal.returns-then-den-le0
returns-then-den-le0 c = not_above_zero c.args.num c.args.den (grind (arith, signed))

pub returns-then-reduced-den : goal.returns-then-reduced-den
returns-then-reduced-den c = frac_of-parts c.new-reduced.result c.args.num c.args.den (grind (arith, signed)) (grind (arith, signed))

pub returns-else-reduced-num : goal.returns-else-reduced-num
returns-else-reduced-num c =
    not_reduced c.new-reduced.result c.args.num c.args.den (to_z w128 (of_z w128 c.args.num)) (to_z w128 (of_z w128 c.args.den)) c.new-reduced.ensures.rational (grind (arith, signed)) (grind (arith, signed))
    (elim c.else-reduced-num.branch [
      | else-reduced-num-via-then-reduced-num+else-reduced-den w ↦ λ e f. grind (arith, signed)
      | else-reduced-num-via-else-reduced-num w ↦ λ e f. grind (arith, signed)
    ])

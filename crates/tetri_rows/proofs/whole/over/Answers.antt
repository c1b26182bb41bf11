use Rattle.tetri_algebra.specs.RationalRing.{◌*ℚ◌}
use Rattle.tetri_num.specs.Frac.{value}
use Rattle.std.proofs.Common.{◌∙◌, ap}
use Rattle.tetri_rows.proofs.WholeRows.{over_value}
use Rattle.tetri_rows.proofs.Words.{wide_short}
use mir.Val.{to_z, of_z}
use mir.Syntax.{w64, w128}
use Rattle.tetri_rows.proofs.whole.over.Goals as goal

pub returns-in-Ok-clause-value : goal.returns-in-Ok-clause-value
returns-in-Ok-clause-value c =
    over_value c.short_fraction.result c.args.den (to_z w128 (of_z w128 (to_z w64 (of_z w64 c.args.den)))) (value c.args.x) (value c.in-Ok.scaled) c.requires (wide_short c.args.den c.requires.short) (c.in-Ok.ensures.rational ∙ ap (λ q. value c.args.x *ℚ q) c.whole.ensures.rational) c.short_fraction.ensures.value

use Rattle.std.proofs.Common.{arith}
use Rattle.tetri_num.proofs.Signed.{signed}
use Rattle.tetri_num.proofs.Compares.{floor_value, floor_below, floor_above}
use Rattle.tetri_num.proofs.fractions.Frac.floor.Goals as goal
use mir.Val.{to_z, of_z}
use mir.Syntax.{w128}

pub returns-clause-rational : goal.returns-clause-rational
returns-clause-rational c = floor_value c.args.self _ (grind (arith, signed))

pub returns-clause-below : goal.returns-clause-below
returns-clause-below c = floor_below c.args.self.num c.args.self.den _ (grind (arith, signed)) c.args.self.lowest.positive

pub returns-clause-above : goal.returns-clause-above
returns-clause-above c = floor_above c.args.self.num c.args.self.den (to_z w128 (of_z w128 c.quotient_down.result)) (grind (arith, signed)) c.args.self.lowest.positive

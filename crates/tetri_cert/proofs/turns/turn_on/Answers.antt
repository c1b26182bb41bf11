use Rattle.std.proofs.Common.{sym, subst, rules}
use Rattle.std.specs.Prelude.{◌<ℤ◌}
use Rattle.std.proofs.lemmas.Int.{to_z-of_z}
use lib.IntN.{ℤ}
use mir.Val.{SFits}
use mir.Syntax.{w128}
use Rattle.tetri_ip.specs.Points.{bounds_of, number_at}
use Rattle.tetri_cert.specs.declared.marks.Mark.{Mark}
use Rattle.tetri_cert.specs.NodeBounds.{HasSides}
use Rattle.tetri_cert.proofs.turns.turn_on.Goals as goal

pub turn_high-requires-clause-column : goal.turn_high-requires-clause-column
turn_high-requires-clause-column c = (subst (λ (m : Mark). HasSides (bounds_of c.args.region.now) m) c.in-Split.is c.requires.sides).0

pub turn_high-requires-clause-below : goal.turn_high-requires-clause-below
turn_high-requires-clause-below c =
    let f : SFits w128 c.in-Split.at = search rules in
    subst (λ (z : ℤ). z <ℤ number_at c.args.region.now.upper.items c.in-Split.column) (sym (to_z-of_z _ _ f)) (subst (λ (m : Mark). HasSides (bounds_of c.args.region.now) m) c.in-Split.is c.requires.sides).2

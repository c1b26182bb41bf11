use Rattle.std.proofs.Common.{◌<◌, ap, ◌∙◌, arith, length, get_or, rules, List}
use Rattle.std.proofs.lemmas.Int.{to_z-of_z}
use mir.Val.{SFits}
use mir.Syntax.{w128}
use lib.IntN.{pos}
use Rattle.tetri_ip.specs.declared.programs.Term.{Term}
use Rattle.tetri_ip.specs.Points.{number_at}
use Rattle.tetri_ip.proofs.Sides.{term_added}
use Rattle.tetri_ip.proofs.points.left_side.Goals as goal

pub loop-term-preserved : goal.loop-term-preserved
loop-term-preserved c =
    let d : Term = record { column = 0; by = pos 0 } in
    let l : c.loop-term.term-index < length c.args.row.now.terms.items = omega (arith, ap (λ (ts : List Term). length ts) c.deref-term-items.ensures.value) in
    let f : SFits w128 (get_or c.deref-term-items.result.now c.loop-term.term-index d).by = search rules in
    let g : SFits w128 (number_at c.args.point.now (get_or c.deref-term-items.result.now c.loop-term.term-index d).column) = search rules in
    let r = term_added c.args.row.now.terms.items c.args.point.now c.loop-term.term-index d _ _ _ _ _ _ l
    (to_z-of_z _ _ f ∙ ap (λ (ts : List Term). (get_or ts c.loop-term.term-index d).by) c.deref-term-items.ensures.value)
    (to_z-of_z _ _ g ∙ ap (λ (ts : List Term). number_at c.args.point.now (get_or ts c.loop-term.term-index d).column) c.deref-term-items.ensures.value)
    c.loop-term.invariant.in_range c.loop-term.invariant.value (λ u. to_z-of_z _ _ u) (λ u. to_z-of_z _ _ u) in
    record { in_range = r.0; value = r.1 }

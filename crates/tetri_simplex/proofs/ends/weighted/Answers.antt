use Rattle.std.proofs.Common.{◌≡◌, cond, ◌∙◌}
use lib.IntN.{pos}
use mir.Val.{to_z}
use mir.Syntax.{w128}
use Rattle.tetri_ip.specs.Points.{bounds_of}
use Rattle.tetri_dictionary.specs.Fractions.{values}
use Rattle.tetri_dictionary.proofs.DictionaryLaws.{number_read}
use Rattle.tetri_simplex.proofs.EndForms.{weighted_known, with_objective, without_objective}
use Rattle.tetri_simplex.proofs.ends.weighted.Goals as goal
use Rattle.tetri_simplex.proofs.ends.weighted.Goals.{then-has_objective, else-has_objective}

pub returns-in-None : goal.returns-in-None
returns-in-None c =
    let q = to_z w128 c.if-has_objective.q-bits in
    let d = c.in-Ok.denominator in
    let e = number_read d c.in-Ok.ensures.within in
    let qe : q ≡ cond c.args.has_objective d (pos 0) =
    elim c.if-has_objective.branch [ then-has_objective w ↦ with_objective c.args.has_objective q d _ w.if-has_objective.true w.q-is e | else-has_objective w ↦ without_objective c.args.has_objective q d w.if-has_objective.false w.q-is ] in
    λ done.
    weighted_known c.args.p.now (bounds_of c.args.r.now) (values c.args.fractions.now) c.args.has_objective d _ q c.in-Ok-whole_weights.weights.items c.deref.result.now c.in-Ok.ensures.formed c.in-Ok-whole_weights.ensures.formed e c.in-Ok.ensures.positive qe c.deref.ensures.value done
    ∙ c.in-None.ensures (done q c.in-Ok-whole_weights.weights.items)

pub returns-in-Some : goal.returns-in-Some
returns-in-Some c =
    let q = to_z w128 c.if-has_objective.q-bits in
    let d = c.in-Ok.denominator in
    let e = number_read d c.in-Ok.ensures.within in
    let qe : q ≡ cond c.args.has_objective d (pos 0) =
    elim c.if-has_objective.branch [ then-has_objective w ↦ with_objective c.args.has_objective q d _ w.if-has_objective.true w.q-is e | else-has_objective w ↦ without_objective c.args.has_objective q d w.if-has_objective.false w.q-is ] in
    λ done.
    weighted_known c.args.p.now (bounds_of c.args.r.now) (values c.args.fractions.now) c.args.has_objective d _ q c.in-Ok-whole_weights.weights.items c.deref.result.now c.in-Ok.ensures.formed c.in-Ok-whole_weights.ensures.formed e c.in-Ok.ensures.positive qe c.deref.ensures.value done
    ∙ c.in-Some.ensures (done q c.in-Ok-whole_weights.weights.items)

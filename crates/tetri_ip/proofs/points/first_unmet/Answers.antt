use Rattle.std.proofs.Common.{ℕ, ◌<◌, ◌^◌, arith, length, rules, List, sym, ◌∙◌, subst, true, false}
use Rattle.std.proofs.lemmas.Int.{to_z-of_z}
use mir.Val.{SFits}
use mir.Syntax.{w128}
use Rattle.tetri_ip.specs.declared.programs.Term.{Term}
use Rattle.tetri_ip.specs.Points.{column_at, sizes, terms_of}
use Rattle.tetri_ip.proofs.Sides.{sizes-reach}
use Rattle.tetri_ip.proofs.Steps.{terms_of_at}
use Rattle.tetri_ip.proofs.UnmetLemmas.{unmet_step}
use Rattle.tetri_ip.proofs.points.first_unmet.Goals as goal

pub left_side-requires-clause-columns : goal.left_side-requires-clause-columns
left_side-requires-clause-columns c =
    let l : c.loop-i.i < length c.args.p.now.rows.items = omega arith in
    let e = terms_of_at c.args.p.now.rows.items c.loop-i.i c.index-row.result.now l c.index-row.ensures in
    subst (λ (ts : List Term). (k : ℕ) → k < length ts → column_at ts k < length c.args.point.now) e
    (λ k m. omega (arith, (c.requires.fit.rows c.loop-i.i l).columns k m, c.requires.count))

pub left_side-requires-clause-in_range : goal.left_side-requires-clause-in_range
left_side-requires-clause-in_range c =
    let l : c.loop-i.i < length c.args.p.now.rows.items = omega arith in
    let e = terms_of_at c.args.p.now.rows.items c.loop-i.i c.index-row.result.now l c.index-row.ensures in
    let ts = terms_of c.args.p.now.rows.items c.loop-i.i in
    let fit = c.requires.fit.rows c.loop-i.i l in
    let b = sizes-reach c.args.p.now c.args.point.now ts c.requires.in_box fit.columns in
    let f = fit.in_range in
    let g : sizes ts c.args.point.now < 2 ^ 127 = omega (arith, b, f) in
    subst (λ (us : List Term). sizes us c.args.point.now < 2 ^ 127) e g

pub returns-then-row-left_side : goal.returns-then-row-left_side
returns-then-row-left_side c =
    let l : c.loop-i.i < length c.args.p.now.rows.items = omega arith in
    let f : SFits w128 c.index-row.result.now.right = search rules in
    let g : SFits w128 c.left_side.result = search rules in
    sym (c.loop-i.invariant ∙ unmet_step c.args.p.now.rows.items c.args.point.now c.loop-i.i c.index-row.result.now c.left_side.result _ _ true l c.index-row.ensures c.left_side.ensures (to_z-of_z _ _ g) (to_z-of_z _ _ f) c.if-row-left_side.true)

pub loop-i-preserved : goal.loop-i-preserved
loop-i-preserved c =
    let l : c.loop-i.i < length c.args.p.now.rows.items = omega arith in
    let f : SFits w128 c.index-row.result.now.right = search rules in
    let g : SFits w128 c.left_side.result = search rules in
    c.loop-i.invariant ∙ unmet_step c.args.p.now.rows.items c.args.point.now c.loop-i.i c.index-row.result.now c.left_side.result _ _ false l c.index-row.ensures c.left_side.ensures (to_z-of_z _ _ g) (to_z-of_z _ _ f) c.if-row-left_side.false

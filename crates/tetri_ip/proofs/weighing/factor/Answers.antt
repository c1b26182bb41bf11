use Rattle.std.proofs.Common.{◌<◌, sym, ap, ◌∙◌, arith, length, get_or, rules, List}
use Rattle.std.proofs.lemmas.Int.{to_z-of_z}
use mir.Val.{SFits}
use mir.Syntax.{w128}
use lib.IntN.{ℤ, pos}
use Rattle.tetri_ip.specs.declared.programs.Term.{Term}
use Rattle.tetri_ip.specs.declared.programs.Weight.{Weight}
use Rattle.tetri_ip.specs.Forming.{coefficients, form_factor, subtract_product}
use Rattle.tetri_ip.specs.Points.{coefficient}
use Rattle.tetri_ip.proofs.Steps.{put_next, put_none, row_ascends, subtract_fits, terms_of_at}
use Rattle.tetri_ip.proofs.weighing.factor.Goals as goal

pub coefficient_of-by-requires : goal.coefficient_of-by-requires
coefficient_of-by-requires c =
    let d : Weight = record { row = 0; by = pos 0 } in
    let l : c.loop-w.w-index < length c.args.weights.now = omega arith in
    let k : (get_or c.args.weights.now c.loop-w.w-index d).row < length c.args.p.now.rows.items = c.requires.rows c.loop-w.w-index d l in
    row_ascends c.args.p.now (get_or c.args.weights.now c.loop-w.w-index d).row c.index.result.now c.requires.fit k c.index.ensures

pub loop-w-preserved : goal.loop-w-preserved
loop-w-preserved c =
    let d : Weight = record { row = 0; by = pos 0 } in
    let l : c.loop-w.w-index < length c.args.weights.now = omega arith in
    let k : (get_or c.args.weights.now c.loop-w.w-index d).row < length c.args.p.now.rows.items = c.requires.rows c.loop-w.w-index d l in
    let f : SFits w128 (get_or c.args.weights.now c.loop-w.w-index d).by = search rules in
    let h : SFits w128 c.coefficient_of-by.result = search rules in
    sym (put_next subtract_product (coefficients c.args.p.now.rows.items c.args.column) c.args.weights.now c.loop-w.w-index d _ _ _ _ l (to_z-of_z _ _ f) (to_z-of_z _ _ h ∙ c.coefficient_of-by.ensures ∙ ap (λ (ts : List Term). coefficient ts c.args.column) (sym (terms_of_at _ _ c.index.result.now k c.index.ensures)))
    c.subtract_product.ensures subtract_fits c.in-Some.next _ c.in-Some.is (λ u. to_z-of_z _ _ u)) ∙ c.loop-w.invariant

pub returns-in_default : goal.returns-in_default
returns-in_default c =
    let d : Weight = record { row = 0; by = pos 0 } in
    let l : c.loop-w.w-index < length c.args.weights.now = omega arith in
    let k : (get_or c.args.weights.now c.loop-w.w-index d).row < length c.args.p.now.rows.items = c.requires.rows c.loop-w.w-index d l in
    let f : SFits w128 (get_or c.args.weights.now c.loop-w.w-index d).by = search rules in
    let h : SFits w128 c.coefficient_of-by.result = search rules in
    put_none subtract_product (coefficients c.args.p.now.rows.items c.args.column) c.args.weights.now c.loop-w.w-index d _ _ _ _ l (to_z-of_z _ _ f) (to_z-of_z _ _ h ∙ c.coefficient_of-by.ensures ∙ ap (λ (ts : List Term). coefficient ts c.args.column) (sym (terms_of_at _ _ c.index.result.now k c.index.ensures)))
    c.subtract_product.ensures c.in_default.is ∙ c.loop-w.invariant
    ∙ ap (λ (z : ℤ). form_factor c.args.p.now.rows.items c.args.weights.now c.args.column z) (to_z-of_z _ _ c.ranges.cost)

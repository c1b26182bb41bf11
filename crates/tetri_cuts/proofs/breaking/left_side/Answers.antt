use Rattle.std.proofs.Common.{◌≡◌, ◌<◌, sym, ap, subst, ◌∙◌, arith, length, get_or, rules, List}
use Rattle.std.proofs.lemmas.Int.{to_z-of_z}
use mir.Val.{SFits}
use mir.Syntax.{w128}
use lib.IntN.{pos}
use Rattle.tetri_num.specs.Frac.{value}
use Rattle.tetri_ip.specs.declared.programs.Term.{Term}
use Rattle.tetri_dictionary.specs.Fractions.{values}
use Rattle.tetri_simplex.specs.Relaxation.{coordinate}
use Rattle.tetri_cuts.specs.Breaking.{refusal_of}
use Rattle.tetri_cuts.proofs.BreakLemmas.{coordinate_is, left_next, left_refused}
use Rattle.tetri_cuts.proofs.breaking.left_side.Goals as goal

pub loop-term-preserved : goal.loop-term-preserved
loop-term-preserved c =
    let d : Term = record { column = 0; by = pos 0 } in
    let ts = c.args.row.now.terms.items in
    let i = c.loop-term.term-index in
    let same = c.deref-term-items.ensures.value in
    let l : i < length ts = omega (arith, ap (λ (us : List Term). length us) same) in
    let f : SFits w128 (get_or c.deref-term-items.result.now i d).by = search rules in
    let inside : (get_or c.deref-term-items.result.now i d).column < length c.args.point.now = subst (λ (us : List Term). (get_or us i d).column < length c.args.point.now) (sym same) (c.requires.columns i l) in
    let x : value c.index-point-term.result ≡ coordinate (values c.args.point.now) (get_or ts i d).column =
    sym (coordinate_is c.args.point.now (get_or c.deref-term-items.result.now i d).column c.index-point-term.result inside c.index-point-term.is)
    ∙ ap (λ (us : List Term). coordinate (values c.args.point.now) (get_or us i d).column) same in
    sym (left_next ts (values c.args.point.now) i d (value c.loop-term.sum) _ (value c.index-point-term.result) l (to_z-of_z _ _ f ∙ ap (λ (us : List Term). (get_or us i d).by) same) x _ c.in-Ok.ensures) ∙ c.loop-term.invariant

pub returns-in-Err : goal.returns-in-Err
returns-in-Err c =
    let d : Term = record { column = 0; by = pos 0 } in
    let ts = c.args.row.now.terms.items in
    let i = c.loop-term.term-index in
    let same = c.deref-term-items.ensures.value in
    let l : i < length ts = omega (arith, ap (λ (us : List Term). length us) same) in
    let f : SFits w128 (get_or c.deref-term-items.result.now i d).by = search rules in
    let inside : (get_or c.deref-term-items.result.now i d).column < length c.args.point.now = subst (λ (us : List Term). (get_or us i d).column < length c.args.point.now) (sym same) (c.requires.columns i l) in
    let x : value c.index-point-term.result ≡ coordinate (values c.args.point.now) (get_or ts i d).column =
    sym (coordinate_is c.args.point.now (get_or c.deref-term-items.result.now i d).column c.index-point-term.result inside c.index-point-term.is)
    ∙ ap (λ (us : List Term). coordinate (values c.args.point.now) (get_or us i d).column) same in
    sym c.loop-term.invariant
    ∙ left_refused ts (values c.args.point.now) i d (value c.loop-term.sum) _ (value c.index-point-term.result) l (to_z-of_z _ _ f ∙ ap (λ (us : List Term). (get_or us i d).by) same) x (refusal_of c.in-Err.past) c.in-Err.ensures

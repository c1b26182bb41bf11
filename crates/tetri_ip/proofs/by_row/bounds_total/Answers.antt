use Rattle.std.proofs.Common.{◌+◌, ◌∙◌, Option, ap, drop, sym, rules}
use Rattle.std.proofs.lemmas.Int.{to_z-of_z}
use mir.Val.{SFits, of_z, to_z}
use mir.Syntax.{w128}
use lib.IntN.{ℤ}
use Rattle.tetri_ip.specs.Forming.{form_bounds, then_form}
use Rattle.tetri_ip.specs.Points.{bounds_of, number_at}
use Rattle.tetri_ip.specs.Weighed.{bound_taken}
use Rattle.tetri_ip.proofs.FactorLemmas.{bounds_step}
use Rattle.tetri_ip.proofs.Steps.{add_fits}
use Rattle.tetri_ip.proofs.by_row.bounds_total.Goals as goal

pub returns-in_default : goal.returns-in_default
returns-in_default c =
    let b = bounds_of c.args.r.now in
    let fs = c.args.factors.now in
    let f : SFits w128 (number_at fs c.loop-j.j) = search rules in
    sym (bounds_step b fs c.loop-j.j _ _ c.add_bound.result c.loop-j-test.true (to_z-of_z _ _ f) c.add_bound.ensures
    ∙ ap (λ (o : Option ℤ). then_form o (λ n. form_bounds b (c.loop-j.j + 1) (drop (c.loop-j.j + 1) fs) n)) c.in_default.is)
    ∙ c.loop-j.invariant ∙ ap (λ z. form_bounds b 0 fs z) (to_z-of_z _ _ c.ranges.right)

pub loop-j-preserved : goal.loop-j-preserved
loop-j-preserved c =
    let b = bounds_of c.args.r.now in
    let fs = c.args.factors.now in
    let f : SFits w128 (number_at fs c.loop-j.j) = search rules in
    let by = to_z w128 (of_z w128 (number_at fs c.loop-j.j)) in
    let next = to_z-of_z w128 c.in-Some.next (add_fits (to_z w128 c.loop-j.sum-bits) by (bound_taken b c.loop-j.j by) c.in-Some.next (sym c.add_bound.ensures ∙ c.in-Some.is)) in
    ap (λ z. form_bounds b (c.loop-j.j + 1) (drop (c.loop-j.j + 1) fs) z) next
    ∙ sym (bounds_step b fs c.loop-j.j _ _ c.add_bound.result c.loop-j-test.true (to_z-of_z _ _ f) c.add_bound.ensures
    ∙ ap (λ (o : Option ℤ). then_form o (λ n. form_bounds b (c.loop-j.j + 1) (drop (c.loop-j.j + 1) fs) n)) c.in-Some.is)
    ∙ c.loop-j.invariant

use Rattle.std.proofs.Common.{◌≡◌, ◌∙◌, ap, rules}
use Rattle.std.proofs.lemmas.Int.{to_z-of_z}
use mir.Val.{SFits}
use mir.Syntax.{w128}
use lib.IntN.{pos}
use Rattle.tetri_ip.specs.Points.{bounds_of, number_at}
use Rattle.tetri_ip.specs.Weighed.{bound_taken}
use Rattle.tetri_ip.proofs.Steps.{column_formed, item_is}
use Rattle.tetri_ip.proofs.weighing.column_total.Goals as goal

pub returns : goal.returns
returns c =
    let b = bounds_of c.args.r.now in
    let h : SFits w128 c.index.result.now = search rules in
    let e : c.index.result.now ≡ number_at c.args.p.now.costs.items c.args.j = item_is c.args.p.now.costs.items c.args.j c.index.result.now (pos 0) c.requires.column c.index.ensures in
    column_formed c.args.p.now.rows.items b c.args.q c.args.weights.now c.args.j _ c.args.sum _ _ c.in-Some.cost _ c.in-Some-factor.by _ _ _ _ _ _
    (to_z-of_z _ _ c.ranges.q) (to_z-of_z _ _ h ∙ e) c.product.ensures c.in-Some.is (λ u. to_z-of_z _ _ u) c.factor.ensures c.in-Some-factor.is (λ u. to_z-of_z _ _ u)
    (λ u. ap (λ z. bound_taken b c.args.j z) (to_z-of_z _ _ u)) (to_z-of_z _ _ c.ranges.sum) c.add_bound.ensures

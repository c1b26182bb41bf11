use Rattle.std.proofs.Common.{◌<◌, length, ◌∙◌, arith, rules}
use Rattle.std.proofs.lemmas.Int.{to_z-of_z}
use lib.IntN.{pos}
use mir.Val.{SFits, to_z}
use mir.Syntax.{w128}
use Rattle.tetri_algebra.specs.IntegerRing.{ℤ_ring}
use Rattle.tetri_algebra.specs.Sums.{dot}
use Rattle.tetri_ip.specs.Points.{number_at}
use Rattle.tetri_ip.proofs.IntegerProgramLaws.{cost_added, item_is, objective_end}
use Rattle.tetri_dictionary.proofs.start.objective_at.Goals as goal

pub overflow_mul-part : goal.overflow_mul-part
overflow_mul-part c =
    let cs = c.args.p.now.costs.items in
    let j = c.loop-j.j in
    let h : j < length cs = omega (arith, c.len-j-end.ensures, c.args.p.now.costs.ok.0) in
    let a : SFits w128 c.index.result.now = search rules in
    let b : SFits w128 (number_at c.args.start.now j) = search rules in
    (cost_added c.args.p.now c.args.start.now j (to_z w128 c.loop-j.sum-bits) (dot ℤ_ring cs c.args.start.now) _ _ c.requires.start.inside c.requires.start.count h (to_z-of_z _ _ a ∙ item_is cs j c.index.result.now (pos 0) h c.index.ensures) (to_z-of_z _ _ b) c.loop-j.invariant.in_range c.loop-j.invariant.value).part_fits

pub overflow_add-sum : goal.overflow_add-sum
overflow_add-sum c =
    let cs = c.args.p.now.costs.items in
    let j = c.loop-j.j in
    let h : j < length cs = omega (arith, c.len-j-end.ensures, c.args.p.now.costs.ok.0) in
    let a : SFits w128 c.index.result.now = search rules in
    let b : SFits w128 (number_at c.args.start.now j) = search rules in
    (cost_added c.args.p.now c.args.start.now j (to_z w128 c.loop-j.sum-bits) (dot ℤ_ring cs c.args.start.now) _ _ c.requires.start.inside c.requires.start.count h (to_z-of_z _ _ a ∙ item_is cs j c.index.result.now (pos 0) h c.index.ensures) (to_z-of_z _ _ b) c.loop-j.invariant.in_range c.loop-j.invariant.value).sum_fits

pub loop-j-preserved : goal.loop-j-preserved
loop-j-preserved c =
    let cs = c.args.p.now.costs.items in
    let j = c.loop-j.j in
    let h : j < length cs = omega (arith, c.len-j-end.ensures, c.args.p.now.costs.ok.0) in
    let a : SFits w128 c.index.result.now = search rules in
    let b : SFits w128 (number_at c.args.start.now j) = search rules in
    let r = cost_added c.args.p.now c.args.start.now j (to_z w128 c.loop-j.sum-bits) (dot ℤ_ring cs c.args.start.now) _ _ c.requires.start.inside c.requires.start.count h (to_z-of_z _ _ a ∙ item_is cs j c.index.result.now (pos 0) h c.index.ensures) (to_z-of_z _ _ b) c.loop-j.invariant.in_range c.loop-j.invariant.value in
    record { in_range = r.in_range; value = r.value }

pub returns-clause-value : goal.returns-clause-value
returns-clause-value c = objective_end c.args.p.now c.args.start.now c.loop-j.j _ _ (omega (arith, c.len-j-end.ensures, c.args.p.now.costs.ok.0)) c.loop-j.invariant.value

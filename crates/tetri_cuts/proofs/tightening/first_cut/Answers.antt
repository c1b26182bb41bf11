use Rattle.std.proofs.Common.{refl, sym, subst, arith}
use Rattle.std.proofs.lemmas.Int.{to_z-of_z}
use lib.IntN.{ℤ}
use mir.Val.{of_z, to_z}
use mir.Syntax.{w128}
use Rattle.tetri_dictionary.specs.Fractions.{values}
use Rattle.tetri_cuts.specs.Tightening.{Passes}
use Rattle.tetri_cuts.proofs.PassLemmas.{below_next, none_past, refused, taken_first}
use Rattle.tetri_cuts.proofs.tightening.first_cut.Goals as goal

pub returns-in-Err-Past : goal.returns-in-Err-Past
returns-in-Err-Past c = let e = c.in-Err-Past.field-0-is in let h = rw c.in-Err-Past.field-0-is at c.in-Err-Past.ensures.fault in none_past c.args.p.now (values c.args.point.now) c.args.q c.args.weights.now _ h

pub loop-d-init : goal.loop-d-init
loop-d-init c k least below passes = absurd (omega arith)

pub returns-in-Some : goal.returns-in-Some
returns-in-Some c =
    taken_first c.args.p.now (values c.args.point.now) c.args.q _ c.args.weights.now (to_z-of_z _ _ c.ranges.q) c.loop-d.d _ c.in-Some.added c.in_ok-added.ensures c.in-Some.is (omega arith) (omega arith) c.loop-d.invariant

pub loop-d-preserved : goal.loop-d-preserved
loop-d-preserved c =
    let q = to_z w128 (of_z w128 c.args.q) in
    below_next c.args.p.now (values c.args.point.now) q c.args.weights.now c.loop-d.d _ refl c.loop-d.invariant
    (refused c.args.p.now (values c.args.point.now) q _ c.args.weights.now refl c.loop-d.d _ c.in_ok-added.ensures c.in_default.is)

pub returns : goal.returns
returns c d least most passes =
    c.loop-d.invariant d least (omega arith) (subst (λ (y : ℤ). Passes c.args.p.now (values c.args.point.now) y c.args.weights.now d) (sym (to_z-of_z _ _ c.ranges.q)) passes)

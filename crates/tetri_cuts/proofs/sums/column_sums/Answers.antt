use Rattle.std.proofs.Common.{◌<◌, arith, length, sym, subst, ◌∙◌, All, List}
use Rattle.std.proofs.lemmas.Int.{to_z-of_z}
use Rattle.std.proofs.lemmas.List.Elements.{All-push}
use lib.IntN.{ℤ}
use mir.Val.{of_z, to_z}
use mir.Syntax.{w128}
use Rattle.tetri_algebra.specs.Range.{IsWithin}
use Rattle.tetri_cuts.proofs.CutSteps.{column_formed, past_here, past_more, sums_more}
use Rattle.tetri_cuts.proofs.sums.column_sums.Goals as goal

pub loop-j-preserved : goal.loop-j-preserved
loop-j-preserved c =
    let l : c.loop-j.j < length c.args.p.now.costs.items = omega arith in
    let rows = c.args.p.now.rows.items in
    let z = to_z w128 (of_z w128 c.in-Some.sum) in
    let f = sym c.column_sum.ensures ∙ c.in-Some.is in
    let formed = column_formed rows c.loop-j.j c.args.weights.now c.in-Some.sum z f (λ u. to_z-of_z _ _ u) in
    record {
      sums = sums_more rows c.args.weights.now c.args.p.now.costs.items c.loop-j.j z c.loop-j.sums.items _ _ l c.in_ok-push.ensures.items formed.is c.loop-j.invariant.sums;
      past = past_more rows c.args.weights.now c.args.p.now.costs.items c.loop-j.j c.in-Some.sum l f ∙ c.loop-j.invariant.past;
      within = subst (λ (v : List ℤ). All IsWithin v) (sym c.in_ok-push.ensures.items) (All-push IsWithin c.loop-j.sums.items z c.loop-j.invariant.within formed.within);
    }

pub returns-in_default-clause-fault : goal.returns-in_default-clause-fault
returns-in_default-clause-fault c =
    let l : c.loop-j.j < length c.args.p.now.costs.items = omega arith in
    sym c.loop-j.invariant.past
    ∙ past_here c.args.p.now.rows.items c.args.weights.now c.args.p.now.costs.items c.loop-j.j l (sym c.column_sum.ensures ∙ c.in_default.is)

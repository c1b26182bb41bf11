use Rattle.std.proofs.Common.{◌≡◌, ◌<◌, ◌*ℤ◌, ◌∙◌, Some, arith, ap, length, sym, rules}
use Rattle.std.proofs.lemmas.Int.{to_z-of_z}
use Rattle.std.proofs.lemmas.List.{length-set}
use mir.Val.{SFits, of_z, to_z}
use mir.Syntax.{w128}
use lib.IntN.{pos}
use Rattle.tetri_ip.specs.Forming.{within}
use Rattle.tetri_ip.specs.Points.{number_at}
use Rattle.tetri_ip.proofs.FactorLemmas.{put_next}
use Rattle.tetri_ip.proofs.Steps.{item_is, within_fits}
use Rattle.tetri_ip.proofs.by_row.start_factors.Goals as goal

pub loop-j-preserved : goal.loop-j-preserved
loop-j-preserved c =
    let costs = c.args.p.now.costs.items in
    let q = to_z w128 (of_z w128 c.args.q) in
    let h : SFits w128 c.index.result.now = search rules in
    let inside : c.loop-j.j < length costs = omega (arith, c.loop-j-test.true) in
    let cost : c.index.result.now ≡ number_at costs c.loop-j.j = item_is costs c.loop-j.j c.index.result.now (pos 0) inside c.index.ensures in
    let told : within (q *ℤ number_at costs c.loop-j.j) ≡ Some c.in-Some.first = ap (λ z. within (q *ℤ z)) (sym (to_z-of_z _ _ h ∙ cost)) ∙ sym c.product.ensures ∙ c.in-Some.is in
    record {
      count = length-set _ _ _ ∙ c.loop-j.invariant.count;
      started = put_next (λ k. within (q *ℤ number_at costs k)) c.loop-j.factors c.loop-j.j c.in-Some.first _ (omega (arith, inside, c.loop-j.invariant.count)) c.loop-j.invariant.started told
          (to_z-of_z w128 c.in-Some.first (within_fits (q *ℤ number_at costs c.loop-j.j) c.in-Some.first told));
    }

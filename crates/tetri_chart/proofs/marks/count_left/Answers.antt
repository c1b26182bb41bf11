use Rattle.std.proofs.Common.{◌∙◌, ap, arith}
use Rattle.std.specs.Int.{from_bool}
use Rattle.tetri_space.specs.Space.{bid}
use Rattle.tetri_chart.specs.Marks.{is_left}
use Rattle.tetri_chart.proofs.MarkLemmas.{added_small, counted_next}
use Rattle.tetri_chart.proofs.marks.count_left.Goals as goal

pub loop-offer-preserved : goal.loop-offer-preserved
loop-offer-preserved c =
    let l = c.loop-offer in
    let o = c.offer-item.result in
    let added = c.from-count.result in
    let adds = c.from-count.ensures ∙ ap (λ b. from_bool b) c.is_left.ensures in
    let next = counted_next c.args.launched.now c.deref-offer-items.result.now l.offer-index o added c.loop-offer-test.true c.offer-item.is adds in
    record {
      counted = omega (arith, next, l.invariant.counted);
      within = omega (arith, added_small (is_left c.args.launched.now (bid o)) added adds, l.invariant.within);
    }

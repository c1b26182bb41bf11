use Rattle.std.proofs.Common.{◌<◌, cond, length, ap, arith}
use Rattle.tetri_figures.specs.Figures.{part_of}
use Rattle.tetri_trace.specs.Scenario.{scenario}
use Rattle.tetri_figures.proofs.SumLemmas.{picked_sum_all, picked_sum_next}
use Rattle.tetri_figures.proofs.sums.sum_over.Goals as goal

pub loop-place-preserved : goal.loop-place-preserved
loop-place-preserved c =
    let l = c.loop-place in
    let rows = c.args.rows.now in
    let row = c.index-rows-place.result in
    let f = part_of (scenario c.args.trace.now) c.args.part in
    let lt : l.place < length rows = omega (arith, c.loop-place-test.true, l.auto.place-end) in
    record {
      told = omega (arith, c.picked_part.ensures, ap (λ b. cond b (f row) 0) c.is_picked.ensures, picked_sum_next f c.args.marks.now rows l.place l.sum _ l.invariant.told row lt c.index-rows-place.is);
      small = omega arith;
    }

pub returns : goal.returns
returns c =
    let l = c.loop-place in
    picked_sum_all (part_of (scenario c.args.trace.now) c.args.part) c.args.marks.now c.args.rows.now l.place l.sum _ l.invariant.told (omega (arith, c.loop-place-test.false))

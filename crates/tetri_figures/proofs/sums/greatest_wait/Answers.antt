use Rattle.std.proofs.Common.{◌+◌, ◌<◌, ◌∙◌, cond, drop, length, ap, arith}
use Rattle.std.specs.Prelude.{max}
use Rattle.tetri_figures.specs.Figures.{greatest_of, part_of, picked}
use Rattle.tetri_trace.specs.Scenario.{scenario}
use Rattle.tetri_figures.proofs.SumLemmas.{picked_max_all, picked_max_next}
use Rattle.tetri_figures.proofs.sums.greatest_wait.Goals as goal

pub loop-place-preserved : goal.loop-place-preserved
loop-place-preserved c =
    let l = c.loop-place in
    let rows = c.args.rows.now in
    let row = c.index-rows-place.result in
    let f = part_of (scenario c.args.trace.now) c.args.part in
    let lt : l.place < length rows = omega (arith, c.loop-place-test.true, l.auto.place-end) in
    ap (λ n. max n (greatest_of f (picked (drop (l.place + 1) c.args.marks.now) (drop (l.place + 1) rows)))) c.max-greatest.ensures
    ∙ picked_max_next f c.args.marks.now rows l.place l.greatest _ l.invariant row lt c.index-rows-place.is c.picked_part-wait.result
    (c.picked_part-wait.ensures ∙ ap (λ b. cond b (f row) 0) c.is_picked.ensures)

pub returns : goal.returns
returns c =
    let l = c.loop-place in
    picked_max_all (part_of (scenario c.args.trace.now) c.args.part) c.args.marks.now c.args.rows.now l.place l.greatest _ l.invariant (omega (arith, c.loop-place-test.false))

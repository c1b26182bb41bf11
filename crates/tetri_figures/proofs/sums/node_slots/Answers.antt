use Rattle.std.proofs.Common.{◌+◌, ◌<◌, ◌∙◌, ℕ, cond, length, ap, drop, arith}
use Rattle.std.specs.Prelude.{min, option_map}
use Rattle.tetri_base.specs.Lists.{sum_of}
use Rattle.tetri_accounts.specs.declared.row.Row.{Row}
use Rattle.tetri_trace.specs.Scenario.{scenario}
use Rattle.tetri_figures.specs.Figures.{most, picked, row_slots}
use Rattle.tetri_figures.proofs.SumLemmas.{capped_all, capped_next}
use Rattle.tetri_figures.proofs.sums.node_slots.Goals as goal

pub loop-place-preserved : goal.loop-place-preserved
loop-place-preserved c =
    let l = c.loop-place in
    let rows = c.args.rows.now in
    let row = c.index-rows-place.result in
    let f : Row → ℕ = row_slots (scenario c.args.trace.now) (option_map (λ m. m.now) c.args.counted) in
    let lt : l.place < length rows = omega (arith, c.loop-place-test.true, l.auto.place-end) in
    record {
      told =
          ap (λ n. min (n + sum_of f (picked (drop (l.place + 1) c.args.marks.now) (drop (l.place + 1) rows))) most) c.plus_capped-sum.ensures.value
          ∙ capped_next f most c.args.marks.now rows l.place l.sum _ l.invariant.told row lt c.index-rows-place.is c.picked_slots-more.result
          (c.picked_slots-more.ensures ∙ ap (λ b. cond b (min (f row) most) 0) c.is_picked.ensures);
      few = c.plus_capped-sum.ensures.few;
    }

pub returns : goal.returns
returns c =
    let l = c.loop-place in
    capped_all (row_slots (scenario c.args.trace.now) (option_map (λ m. m.now) c.args.counted)) most c.args.marks.now c.args.rows.now l.place l.sum _ l.invariant.told
    (omega (arith, c.loop-place-test.false)) l.invariant.few

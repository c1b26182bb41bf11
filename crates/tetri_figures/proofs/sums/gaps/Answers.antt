use Rattle.std.proofs.Common.{◌+◌, ◌-◌, ◌∙◌, ap, arith, drop}
use Rattle.tetri_accounts.specs.declared.row.CycleNote.{CycleNote}
use Rattle.tetri_figures.specs.Figures.{gaps}
use Rattle.tetri_figures.proofs.SumLemmas.{sum_all, sum_next_at}
use Rattle.tetri_figures.proofs.sums.gaps.Goals as goal

pub loop-cycle-preserved : goal.loop-cycle-preserved
loop-cycle-preserved c =
    let l = c.loop-cycle in
    let cycles = c.args.cycles.now in
    record {
      told =
          ap (λ n. n + gaps (drop (l.cycle-index + 1) cycles)) c.plus-sum.ensures.value
          ∙ sum_next_at (λ (y : CycleNote). y.bound - y.value) cycles l.cycle-index l.sum _ l.invariant.told c.loop-cycle-test.true _ _ c.gap_of.ensures;
      small = omega arith;
    }

pub returns : goal.returns
returns c =
    let l = c.loop-cycle in
    sum_all (λ (y : CycleNote). y.bound - y.value) c.args.cycles.now l.cycle-index l.sum _ l.invariant.told (omega (arith, c.loop-cycle-test.false))

use Rattle.std.proofs.Common.{◌+◌, ◌-◌, ◌∙◌, ap, arith, drop}
use Rattle.tetri_base.specs.Lists.{sum_of}
use Rattle.tetri_priced.specs.Text.{priced_in}
use Rattle.tetri_priced.specs.declared.cycle.PricedCycle.{PricedCycle}
use Rattle.tetri_figures.proofs.SumLemmas.{sum_all, sum_next}
use Rattle.tetri_figures.proofs.bounds.PricedSums.of.Goals as goal

pub loop-cycle-preserved : goal.loop-cycle-preserved
loop-cycle-preserved c =
    let l = c.loop-cycle in
    let x = c.cycle-item.result in
    let xs = c.args.cycles.now in
    record {
      bound =
          ap (λ n. n + priced_in (drop (l.cycle-index + 1) xs)) c.plus.ensures.value
          ∙ sum_next (λ (y : PricedCycle). y.priced) xs l.cycle-index l.sums.bound _ l.invariant.bound x c.loop-cycle-test.true c.cycle-item.is;
      gap =
          ap (λ n. n + sum_of (λ (y : PricedCycle). y.priced - y.value) (drop (l.cycle-index + 1) xs))
          (c.plus-in-loop-cycle.ensures.value ∙ ap (λ n. l.sums.gap + n) c.gap_of.ensures)
          ∙ sum_next (λ (y : PricedCycle). y.priced - y.value) xs l.cycle-index l.sums.gap _ l.invariant.gap x c.loop-cycle-test.true c.cycle-item.is;
      small_bound = omega arith;
      small_gap = omega arith;
    }

pub returns-clause-bound : goal.returns-clause-bound
returns-clause-bound c = sum_all (λ (y : PricedCycle). y.priced) c.args.cycles.now c.loop-cycle.cycle-index _ _ c.loop-cycle.invariant.bound (omega (arith, c.loop-cycle-test.false))

pub returns-clause-gap : goal.returns-clause-gap
returns-clause-gap c = sum_all (λ (y : PricedCycle). y.priced - y.value) c.args.cycles.now c.loop-cycle.cycle-index _ _ c.loop-cycle.invariant.gap (omega (arith, c.loop-cycle-test.false))

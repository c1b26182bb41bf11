use Rattle.std.proofs.Common.{◌==◌, arith}
use Rattle.tetri_base.specs.Lists.{bit}
use Rattle.tetri_base.proofs.ListLaws.{bit-le}
use Rattle.tetri_priced.specs.declared.cycle.PricedCycle.{PricedCycle}
use Rattle.tetri_priced.proofs.TotalLemmas.{sum_all, sum_next}
use Rattle.tetri_priced.proofs.telling.totals_of.Goals as goal

pub overflow_add-totals : goal.overflow_add-totals
overflow_add-totals c = omega (arith, c.optimal_count.ensures, bit-le (c.cycle-item.result.value == c.cycle-item.result.priced))

pub loop-cycle-preserved : goal.loop-cycle-preserved
loop-cycle-preserved c =
    let l = c.loop-cycle in
    let lt = c.loop-cycle-test.true in
    let x = c.cycle-item.result in
    let is = c.cycle-item.is in
    let xs = c.args.cycles.now in
    let i = c.loop-cycle.cycle-index in
    record {
      cycles = l.invariant.cycles;
      optimal = omega (arith, c.optimal_count.ensures, sum_next (λ (y : PricedCycle). bit (y.value == y.priced)) xs i l.totals.optimal _ l.invariant.optimal x lt is);
      value = omega (arith, sum_next (λ (y : PricedCycle). y.value) xs i l.totals.value _ l.invariant.value x lt is);
      bound = omega (arith, sum_next (λ (y : PricedCycle). y.bound) xs i l.totals.bound _ l.invariant.bound x lt is);
      priced = omega (arith, sum_next (λ (y : PricedCycle). y.priced) xs i l.totals.priced _ l.invariant.priced x lt is);
      few = omega (arith, c.optimal_count.ensures, bit-le (x.value == x.priced));
      small_value = omega arith;
      small_bound = omega arith;
      small_priced = omega arith;
    }

pub returns-clause-optimal : goal.returns-clause-optimal
returns-clause-optimal c = sum_all (λ (y : PricedCycle). bit (y.value == y.priced)) c.args.cycles.now c.loop-cycle.cycle-index _ _ c.loop-cycle.invariant.optimal (omega (arith, c.loop-cycle-test.false))

pub returns-clause-value : goal.returns-clause-value
returns-clause-value c = sum_all (λ (y : PricedCycle). y.value) c.args.cycles.now c.loop-cycle.cycle-index _ _ c.loop-cycle.invariant.value (omega (arith, c.loop-cycle-test.false))

pub returns-clause-bound : goal.returns-clause-bound
returns-clause-bound c = sum_all (λ (y : PricedCycle). y.bound) c.args.cycles.now c.loop-cycle.cycle-index _ _ c.loop-cycle.invariant.bound (omega (arith, c.loop-cycle-test.false))

pub returns-clause-priced : goal.returns-clause-priced
returns-clause-priced c = sum_all (λ (y : PricedCycle). y.priced) c.args.cycles.now c.loop-cycle.cycle-index _ _ c.loop-cycle.invariant.priced (omega (arith, c.loop-cycle-test.false))

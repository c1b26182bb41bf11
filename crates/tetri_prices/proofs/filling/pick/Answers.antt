use Rattle.std.proofs.Common.{◌^◌, arith}
use Rattle.tetri_prices.proofs.LoopLemmas.{more_small, part_small, pick_next}
use Rattle.tetri_prices.proofs.filling.pick.Goals as goal

pub overflow_mul-gained : goal.overflow_mul-gained
overflow_mul-gained c = omega (arith, part_small c.min-taken.result c.saturating_sub.result 4096 (2 ^ 80) (omega arith) (omega arith))

pub overflow_add-gained : goal.overflow_add-gained
overflow_add-gained c =
    omega (arith, more_small c.args.count c.loop-place.left c.min-taken.result c.saturating_sub.result c.loop-place.gained (2 ^ 80) c.loop-place.invariant.few (omega arith) (omega arith) c.loop-place.invariant.small)

pub loop-place-preserved : goal.loop-place-preserved
loop-place-preserved c = record {
  so_far = pick_next (λ p. p.cost) (λ p. p.capacity) c.args.places.now c.loop-place.place-index (record { cost = 0; capacity = 0 }) c.loop-place-test.true c.loop-place.left c.min-taken.result _ c.min-taken.ensures
      c.args.each c.saturating_sub.result c.loop-place.gained c.saturating_sub.ensures c.loop-place.invariant.so_far;
  few = omega arith;
  small = more_small c.args.count c.loop-place.left c.min-taken.result c.saturating_sub.result c.loop-place.gained (2 ^ 80) c.loop-place.invariant.few (omega arith) (omega arith) c.loop-place.invariant.small;
}

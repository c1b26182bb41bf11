use Rattle.std.proofs.Common.{◌^◌, arith}
use Rattle.tetri_prices.proofs.LoopLemmas.{fill_next, more_small, part_small}
use Rattle.tetri_prices.proofs.filling.fill.Goals as goal

pub overflow_mul-spent : goal.overflow_mul-spent
overflow_mul-spent c =
    let small = c.requires.small c.loop-place.place-index (record { cost = 0; capacity = 0 }) c.loop-place-test.true in
    omega (arith, part_small c.min-taken.result _ 4096 (2 ^ 70) (omega arith) small)

pub loop-place-preserved : goal.loop-place-preserved
loop-place-preserved c =
    let small = c.requires.small c.loop-place.place-index (record { cost = 0; capacity = 0 }) c.loop-place-test.true in
    record {
      so_far = fill_next (λ p. p.cost) (λ p. p.capacity) c.args.places.now c.loop-place.place-index _ c.loop-place-test.true _ _ _ (omega arith) _ c.loop-place.invariant.so_far;
      few = omega arith;
      small = more_small c.args.count c.loop-place.left c.min-taken.result _ c.loop-place.spent (2 ^ 70) c.loop-place.invariant.few (omega arith) small c.loop-place.invariant.small;
    }

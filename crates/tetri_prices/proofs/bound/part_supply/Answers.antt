use Rattle.std.proofs.Common.{◌≡◌, ℕ, ◌+◌, ◌-◌, ◌*◌, ◌<◌, get_or, ap, ◌∙◌, arith}
use Rattle.tetri_space.specs.Partitions.{available, partitions}
use Rattle.tetri_space.specs.Space.{space}
use Rattle.tetri_prices.proofs.LoopLemmas.{range_sum_next}
use Rattle.tetri_prices.proofs.bound.part_supply.Goals as goal

pub loop-place-preserved : goal.loop-place-preserved
loop-place-preserved c =
    let s = space c.args.inst.now in
    let now = c.args.inst.now.now in
    let place = c.loop-place.place in
    let f = λ (t : ℕ). get_or c.args.prices.now (t - now) 0 * available s (partitions s) c.args.part t in
    let back : place ≡ (now + place) - now = omega arith in
    let here : c.cost_at-cost.result ≡ f (now + place) =
    c.cost_at-cost.ensures.cost ∙ ap (λ n. get_or c.args.prices.now place 0 * n) c.free_at.ensures ∙ ap (λ k. get_or c.args.prices.now k 0 * available s (partitions s) c.args.part (now + place)) back in
    let within : place < c.args.inst.now.window = omega arith in
    record {
      so_far = range_sum_next f now c.args.inst.now.window place c.loop-place.cost c.cost_at-cost.result _ within here c.loop-place.invariant.so_far;
      small = omega (arith, c.cost_at-cost.ensures.small);
    }

use Rattle.std.proofs.Common.{◌≡◌, ◌+◌, ◌-◌, ℕ, get_or, ap, arith}
use Rattle.tetri_priced.specs.Lowest.{above_zero}
use Rattle.tetri_priced.proofs.LowestLemmas.{added_next}
use Rattle.tetri_priced.proofs.lowest.add_prices.Goals as goal

pub loop-place-preserved : goal.loop-place-preserved
loop-place-preserved c =
    let now = c.args.now in
    let place = c.loop-place.place in
    let back : place ≡ (now + place) - now = omega arith in
    added_next (λ (t : ℕ). above_zero c.args.node c.args.unit t (get_or c.args.prices.now (t - now) 0)) now place c.args.told.now.items c.loop-place.told.items _ _
    c.loop-place.invariant c.in_ok-add_price.ensures (ap (λ k. above_zero c.args.node c.args.unit (now + place) (get_or c.args.prices.now k 0)) back)
